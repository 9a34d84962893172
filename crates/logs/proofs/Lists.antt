-- Laws of tests, and of texts that are the same. Assumes nothing.
use Prim.Native.Nat.{ℕ, suc, ◌-◌, ◌≤◌}
use mathlib.Core.Path.{◌≡◌, refl, ap, sym, ◌∙◌}
use mathlib.Core.Bool.{Bool, true, false, ◌&&◌, and-true, and-false, and_assoc}
use mathlib.Core.List.{List, [], ◌∷◌, ◌++◌}
use native.Mathlib.Omega.{arith}
use mir.Val.{bool_byte}
use lib.ListN.{length, get_or, take, drop}
use lib.Seq.{take-suc}
use lib.Dec.{eqb}
pub use Rattle.answers.proofs.Rules.{cond_with}
use Rattle.logs.specs.Log.{one}
use Rattle.text.specs.Fields.{same_as}

pub by_cases {ℓ} : (P : Type ℓ) (t : Bool) → (t ≡ true → P) → (t ≡ false → P) → P
by_cases P true f g = f refl
by_cases P false f g = g refl

-- a test as a number
pub byte_small : (b : Bool) → bool_byte b ≤ 1
byte_small true = omega arith
byte_small false = omega arith

pub byte_one : (b : Bool) → bool_byte b ≡ one b
byte_one true = refl
byte_one false = refl

pub same_none : (a : List ℕ) (x : ℕ) → same_as [] (a ++ (x ∷ [])) ≡ false
same_none [] x = refl
same_none (b ∷ a) x = refl

none_same : (a : List ℕ) (x : ℕ) → same_as (a ++ (x ∷ [])) [] ≡ false
none_same [] x = refl
none_same (b ∷ a) x = refl

-- texts are compared from the last byte on
pub same_snoc : (a b : List ℕ) (x y : ℕ) → same_as (a ++ (x ∷ [])) (b ++ (y ∷ [])) ≡ (same_as a b && eqb x y)
same_snoc [] [] x y = and-true (eqb x y)
same_snoc [] (c ∷ b) x y = ap (λ (t : Bool). eqb x c && t) (same_none b y) ∙ and-false (eqb x c)
same_snoc (c ∷ a) [] x y = ap (λ (t : Bool). eqb c y && t) (none_same a x) ∙ and-false (eqb c y)
same_snoc (c ∷ a) (d ∷ b) x y = ap (λ (t : Bool). eqb c d && t) (same_snoc a b x y) ∙ sym (and_assoc (eqb c d) (same_as a b) (eqb x y))

pub same_append : (a b c d : List ℕ) → length a ≡ length c → same_as (a ++ b) (c ++ d) ≡ (same_as a c && same_as b d)
same_append [] b [] d e = refl
same_append [] b (y ∷ c) d e = absurd (differ (length c) e)
  where
    differ : (n : ℕ) → 0 ≡ suc n → ⊥
    differ n e = omega arith
same_append (x ∷ a) b [] d e = absurd (differ (length a) e)
  where
    differ : (n : ℕ) → suc n ≡ 0 → ⊥
    differ n e = omega arith
same_append (x ∷ a) b (y ∷ c) d e =
    let l : length a ≡ length c = omega arith in
    ap (λ (t : Bool). eqb x y && t) (same_append a b c d l) ∙ sym (and_assoc (eqb x y) (same_as a c) (same_as b d))

-- the last byte of a part
pub take_last : (l : List ℕ) (i : ℕ) → 1 ≤ i → i ≤ length l → take i l ≡ take (i - 1) l ++ (get_or l (i - 1) 0 ∷ [])
take_last l i h k =
    let e : i ≡ suc (i - 1) = omega arith in
    ap (λ (j : ℕ). take j l) e ∙ take-suc l (i - 1) 0 (omega arith)

-- of two lists that begin one list the shorter begins the longer
pub prefix : (a b c d : List ℕ) → a ++ b ≡ c ++ d → length a ≤ length c → (mid : List ℕ) × (c ≡ a ++ mid)
prefix [] b c d e h = (c, refl)
prefix (x ∷ a) b [] d e h = absurd (omega arith)
prefix (x ∷ a) b (y ∷ c) d e h =
    let p : y ≡ x = sym (ap (λ (l : List ℕ). get_or l 0 0) e) in
    let r = prefix a b c d (ap (drop 1) e) (omega arith) in
    (r.0, λ i. p i ∷ r.1 i)
