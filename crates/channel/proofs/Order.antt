-- Three tests in order, told as an answer of the paper: the first that fails refuses with its number. Assumes nothing.
use Prim.Native.Nat.{ℕ}
use mathlib.Core.Path.{◌≡◌, refl}
use mathlib.Core.Bool.{Bool, true, false}
use Rattle.answers.specs.Numbers.{Paper, accepted, refused}
use Rattle.answers.specs.Rules.{unless}

abbrev pub three : (a b c : Bool) (i j k : ℕ) → Paper
three a b c i j k = unless a (refused i) (unless b (refused j) (unless c (refused k) accepted))

-- a refusal, or what follows where there is none
abbrev pub refused_or : {A : Type 0} → Paper → (ℕ → A) → A → A
refused_or accepted refusal rest = rest
refused_or (refused n) refusal rest = refusal n

pub in_order : {A : Type 0} (a b c : Bool) (i j k : ℕ) (refusal : ℕ → A) (rest : A)
    → unless a (refusal i) (unless b (refusal j) (unless c (refusal k) rest)) ≡ refused_or (three a b c i j k) refusal rest
in_order true true true i j k refusal rest = refl
in_order true true false i j k refusal rest = refl
in_order true false c i j k refusal rest = refl
in_order false b c i j k refusal rest = refl

-- what is accepted has passed the first test and the last
pub all_passed : (a b c : Bool) (i j k : ℕ) → accepted ≡ three a b c i j k → (a ≡ true) × (c ≡ true)
all_passed true true true i j k e = (refl, refl)
all_passed true true false i j k e = cc
all_passed true false c i j k e = cc
all_passed false b c i j k e = cc
