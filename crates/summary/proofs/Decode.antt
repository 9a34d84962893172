-- What the bits of a number that a cell shows say. Assumes nothing.
use Prim.Native.Nat.{ℕ, suc, zero, ◌+◌, ◌-◌, ◌*◌, ◌/◌, ◌%◌, ◌^◌, ◌<◌, ◌≤◌}
use mathlib.Core.Path.{◌≡◌, refl, ap, sym, ◌∙◌, subst}
use mathlib.Core.Logic.{inl, inr}
use mathlib.Core.Bool.{Bool, true, false, cond}
use native.Mathlib.Nat.{eq-zero-or-pos, mul_comm, mul_assoc, mul_right_comm, mul-le-mul_left, mul-le-mul_right, mul-lt-mul_of_pos_right, le_of_mul-le-mul_right, lt_of_lt_of_le, lt_of_le_of_lt, le_trans, le_of_eq, lt_irrefl, not-le_of_lt, mul-pos, zero-mul}
use native.Mathlib.Omega.{arith}
use lib.Dec.{leb, eqb}
use lib.Pow.{pow-add, pow_pos, pow_mono, pow-lt}
use lib.Ieee.{Float, nan, inf, fin, binary64, odd, of_bits, of_fields, to_bits}
use lib.Ieee.Bits.{of_bits-to_bits}
use lib.Ieee.Exact.{HasValue, odd_sign}
use lib.Ieee.Positive.{num, den, den_pos}
use borrow.Author.Tests.{leb-true, leb-false}
use Rattle.logs.proofs.Lists.{by_cases}
use Rattle.summary.specs.Building.{Measured}

-- the exponent's field, and the 53 digits
abbrev pub field_of : ℕ → ℕ
field_of b = b % 2 ^ 63 / 2 ^ 52

abbrev pub digits_of : ℕ → ℕ
digits_of b = 2 ^ 52 + b % 2 ^ 52

pub record Decoded (x : Float) (b : ℕ) : Type 0 where
  pub least : 1003 ≤ field_of b
  pub most : field_of b ≤ 1026
  pub value : num x * 2 ^ 1074 ≡ digits_of b * 2 ^ (field_of b - 1) * den x

exponent_le : (i j : ℕ) → 2 ^ i ≤ 2 ^ j → i ≤ j
exponent_le i j h =
    by_cases _ (leb i j) (leb-true i j) (λ e. absurd (not-le_of_lt (pow-lt (leb-false i j e)) h))

exponent_lt : (i j : ℕ) → 2 ^ i < 2 ^ j → i < j
exponent_lt i j h =
    by_cases _ (leb j i) (λ e. absurd (not-le_of_lt h (pow_mono (leb-true j i e)))) (leb-false j i)

-- a fraction n / d that is m * 2 ^ f / 2 ^ l: at most 8, and at least 2 ^ -20
exponent_most : (n d m f l : ℕ) → 0 < d → n * 2 ^ l ≡ m * 2 ^ f * d → n ≤ 8 * d → 2 ^ 52 ≤ m → 52 + f ≤ 3 + l
exponent_most n d m f l D e h k =
    exponent_le (52 + f) (3 + l)
    (le_trans (le_of_eq (pow-add 2 52 f))
    (le_trans (mul-le-mul_right (2 ^ f) k)
    (le_trans
    (le_of_mul-le-mul_right (le_trans (le_of_eq (sym e)) (le_trans (mul-le-mul_right (2 ^ l) h) (le_of_eq (mul_right_comm 8 d (2 ^ l))))) D)
    (le_of_eq (sym (pow-add 2 3 l))))))

exponent_least : (n d m f l : ℕ) → 0 < n → n * 2 ^ l ≡ m * 2 ^ f * d → d ≤ n * 2 ^ 20 → m < 2 ^ 53 → l < 53 + f + 20
exponent_least n d m f l N e h k =
    exponent_lt l (53 + f + 20)
    (lt_of_le_of_lt
    (le_of_mul-le-mul_right
    (le_trans (le_of_eq (mul_comm (2 ^ l) n ∙ e)) (le_trans (mul-le-mul_left (m * 2 ^ f) h) (le_of_eq (swap (m * 2 ^ f) n (2 ^ 20))))) N)
    (lt_of_lt_of_le (mul-lt-mul_of_pos_right (mul-lt-mul_of_pos_right k (pow_pos f)) (pow_pos 20))
    (le_of_eq (ap (λ (z : ℕ). z * 2 ^ 20) (sym (pow-add 2 53 f)) ∙ sym (pow-add 2 (53 + f) 20)))))
  where
    swap : (a b c : ℕ) → a * (b * c) ≡ a * c * b
    swap a b c = simp (mul_assoc, mul_comm)

-- two ways to say what a number is
values : (x : Float) (s : Bool) (a c : ℕ) → HasValue x false (num x) (den x) → HasValue x s a c → (s ≡ false) × (num x * c ≡ a * den x)
values nan s a c v w = absurd v
values (inf t) s a c v w = absurd v
values (fin t m e) s a c v w = (sym w.0 ∙ v.0, w.1)

none : (m f d : ℕ) → 0 < m → 0 < d → 0 ≡ m * 2 ^ f * d → ⊥
none m f d M D e = lt_irrefl 0 (subst (λ (k : ℕ). 0 < k) (sym e) (mul-pos (mul-pos M (pow_pos f)) D))

-- the least bound, where the number is not 0
some : (x : Float) (m f l : ℕ) → Measured x → 0 < m → num x * 2 ^ l ≡ m * 2 ^ f * den x → m < 2 ^ 53 → l < 53 + f + 20
some x m f l k M e h =
    elim k.least [
      | inl z ↦ absurd (none m f (den x) M (den_pos x) (sym (zero-mul (2 ^ l)) ∙ ap (λ (n : ℕ). n * 2 ^ l) (sym z) ∙ e))
      | inr g ↦
          elim (eq-zero-or-pos (num x)) [
            | inl z ↦ absurd (none m f (den x) M (den_pos x) (sym (zero-mul (2 ^ l)) ∙ ap (λ (n : ℕ). n * 2 ^ l) (sym z) ∙ e))
            | inr n ↦ exponent_least (num x) (den x) m f l n e g h
          ]
    ]

nothing : (b : ℕ) → b % 2 ^ 52 ≡ 0 → b % 2 ^ 63 / 2 ^ 52 ≡ 0 → b < 2 ^ 63 → b ≡ 0
nothing b y q h = omega arith

-- a field of 0 is that of numbers too small
field_none : (x : Float) (b : ℕ) (s : Bool) → Measured x → (b ≡ 0 → ⊥) → leb (2 ^ 63) b ≡ s → field_of b ≡ 0
    → x ≡ odd 53 s (b % 2 ^ 52) 0 1074 → ⊥
field_none x b s m z p q e =
    let t = b % 2 ^ 52 in
    let h : t < 2 ^ 53 = omega arith in
    let w = values x s (t * 2 ^ 0) (2 ^ 1074) m.value (subst (λ (y : Float). HasValue y s (t * 2 ^ 0) (2 ^ 1074)) (sym e) (odd_sign 53 s t 0 1074)) in
    elim (eq-zero-or-pos t) [
      | inl y ↦ z (nothing b y q (leb-false (2 ^ 63) b (p ∙ w.0)))
      | inr y ↦ too_small (some x t 0 1074 m y w.1 h)
    ]
  where
    too_small : 1074 < 53 + 0 + 20 → ⊥
    too_small h = omega arith

-- and one of all ones that of no number
field_full : (z s : Bool) (a c : ℕ) → HasValue (cond z (inf s) nan) false a c → ⊥
field_full true s a c h = h
field_full false s a c h = h

field_some : (x : Float) (b : ℕ) (s : Bool) (f : ℕ) → Measured x → field_of b ≡ suc f → x ≡ odd 53 s (digits_of b) f 1074 → Decoded x b
field_some x b s f m q e =
    let d = digits_of b in
    let h : d < 2 ^ 53 = omega arith in
    let w = values x s (d * 2 ^ f) (2 ^ 1074) m.value (subst (λ (y : Float). HasValue y s (d * 2 ^ f) (2 ^ 1074)) (sym e) (odd_sign 53 s d f 1074)) in
    let l : 1074 < 53 + f + 20 = some x d f 1074 m (omega arith) w.1 h in
    let k : 52 + f ≤ 3 + 1074 = exponent_most (num x) (den x) d f 1074 (den_pos x) w.1 m.most (omega arith) in
    let g : f ≡ field_of b - 1 = omega arith in
    record { least = omega arith; most = omega arith; value = w.1 ∙ ap (λ (j : ℕ). d * 2 ^ j * den x) g }

by_field : (x : Float) (b : ℕ) (s : Bool) (f : ℕ) → Measured x → (b ≡ 0 → ⊥) → leb (2 ^ 63) b ≡ s → field_of b ≡ f
    → x ≡ of_fields binary64 s f (b % 2 ^ 52) → Decoded x b
unfolding of_fields
by_field x b s zero m z p q e = absurd (field_none x b s m z p q e)
by_field x b s (suc f) m z p q e =
    by_cases _ (eqb (suc f) 2047)
    (λ r. absurd (field_full (eqb (b % 2 ^ 52) 0) s (num x) (den x) (subst (λ (y : Float). HasValue y false (num x) (den x)) (rw r at e) m.value)))
    (λ r. field_some x b s f m q (rw r at e))

-- THE BITS OF A NUMBER THAT A CELL SHOWS
pub decoded : (x : Float) → Measured x → (to_bits binary64 x ≡ 0 → ⊥) → Decoded x (to_bits binary64 x)
unfolding of_bits
decoded x m z =
    let b = to_bits binary64 x in
    by_field x b (leb (2 ^ 63) b) (field_of b) m z refl refl (sym (of_bits-to_bits binary64 x m.holds))
