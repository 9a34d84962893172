-- No two outcomes of `number` meet its promise, and no two refusals share a number, so what the paper says of an answer determines it. Assumes nothing.
use mathlib.Core.Path.{◌≡◌, refl, sym, ap, ◌∙◌}
use mathlib.Core.List.{[], ◌∷◌}
use Prim.Native.Nat.{ℕ}
use lib.ListN.{get_or}
use native.Mathlib.Omega.{arith}
use Rattle.answers.specs.declared.Refusal.{Refusal}
use Rattle.answers.specs.declared.Refusal.TheVariants.{WrongLength, NoCodeWord, CheckBits, HeaderCheck, OtherChannel, HeaderForm, CountOrPadding, OutOfStep, TooMany, TooShort, OutsideRule, BadLine, NotThisGroup, TooLong}
use Rattle.std.specs.Prelude.{Result, Ok, Err}
use Rattle.answers.specs.Numbers.{number_of, accepted, refused, paper}

-- `number`
pub number_once : (refusal : Refusal) (r s : ℕ) → r ≡ number_of refusal → s ≡ number_of refusal → r ≡ s
number_once refusal r s p q = p ∙ sym q

-- the refusal of a number of the table; no number 0 is given
pub refusal_of : ℕ → Refusal
refusal_of n =
    get_or
    (WrongLength ∷ WrongLength ∷ NoCodeWord ∷ CheckBits ∷ HeaderCheck ∷ OtherChannel ∷ HeaderForm ∷ CountOrPadding ∷ OutOfStep ∷ TooMany ∷ TooShort ∷ OutsideRule ∷ BadLine ∷ NotThisGroup ∷ TooLong ∷ [])
    n TooLong

pub undone : (a : Refusal) → refusal_of (number_of a) ≡ a
unfolding refusal_of
undone WrongLength = refl
undone NoCodeWord = refl
undone CheckBits = refl
undone HeaderCheck = refl
undone OtherChannel = refl
undone HeaderForm = refl
undone CountOrPadding = refl
undone OutOfStep = refl
undone TooMany = refl
undone TooShort = refl
undone OutsideRule = refl
undone BadLine = refl
undone NotThisGroup = refl
undone TooLong = refl

-- NO TWO REFUSALS SHARE A NUMBER
pub refusal_once : (a b : Refusal) → number_of a ≡ number_of b → a ≡ b
refusal_once a b e = sym (undone a) ∙ ap refusal_of e ∙ undone b

-- THE PAPER DETERMINES THE ANSWER
pub paper_once : (a b : Result Unit Refusal) → paper a ≡ paper b → a ≡ b
paper_once (Ok a) (Ok b) e = refl
paper_once (Ok a) (Err b) e = let z : ◌≡◌ {A = ℕ} 0 1 = cc in absurd (omega arith)
paper_once (Err a) (Ok b) e = let z : ◌≡◌ {A = ℕ} 0 1 = cc in absurd (omega arith)
paper_once (Err a) (Err b) e = let n : number_of a ≡ number_of b = cc in ap Err (refusal_once a b n)

-- a refusal is no acceptance
pub refused_accepted : (n : ℕ) → refused n ≡ accepted → ⊥
refused_accepted n e = let z : ◌≡◌ {A = ℕ} 0 1 = cc in omega arith

-- and of two refusals the paper tells the numbers
pub refused_once : (m n : ℕ) → refused m ≡ refused n → m ≡ n
refused_once m n e = cc
