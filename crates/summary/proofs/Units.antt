-- A number that a cell shows, in units of 2 ^ -72: how it is made, and its expansion. Assumes nothing.
use Prim.Native.Nat.{ℕ, suc, zero, ◌+◌, ◌-◌, ◌*◌, ◌/◌, ◌%◌, ◌^◌, ◌<◌, ◌≤◌}
use mathlib.Core.Path.{◌≡◌, refl, ap, sym, ◌∙◌, subst}
use mathlib.Core.List.{[], ◌∷◌, ◌++◌, append-nil}
use native.Mathlib.Nat.{mul_right_comm, mul_assoc, mul-le-mul_left, eq_of_mul-eq-mul_right, mod-eq_of_lt}
use native.Mathlib.Numerals.{add-one}
use native.Mathlib.Omega.{arith}
use lib.Pow.{pow-add, pow_pos, pow_mono}
use lib.Ieee.{Float, binary64, of_bits, of_fields, odd, to_bits}
use lib.Ieee.Bits.{of_bits-to_bits}
use lib.Ieee.Positive.{num, den, den_pos}
use borrow.Author.Tests.{eqb-true, eqb-false, eq-eqb, ne_eqb}
use Rattle.logs.proofs.Lists.{by_cases}
use lib.Dec.{eqb}
use Rattle.logs.specs.Decimal.{decimal}
use Rattle.summary.specs.Export.{decimals, expansion}
use Rattle.summary.specs.Building.{Measured, scaled}
use Rattle.summary.proofs.Decode.{field_of, digits_of, Decoded, decoded}
use Rattle.summary.proofs.Expansion.{expansion_same, decimals_done, decimals_next}

-- no bits: zero
pub zero_units : (x : Float) → Measured x → to_bits binary64 x ≡ 0 → 0 * den x ≡ num x * 2 ^ 72
unfolding of_bits of_fields odd
zero_units x m e =
    let z : x ≡ of_bits binary64 0 = sym (of_bits-to_bits binary64 x m.holds) ∙ ap (of_bits binary64) e in
    subst (λ (y : Float). 0 * den y ≡ num y * 2 ^ 72) (sym z) refl

cross : (n e d k l j : ℕ) → n * 2 ^ (l + j) ≡ d * 2 ^ (k + j) * e → d * 2 ^ k * e ≡ n * 2 ^ l
cross n e d k l j h =
    eq_of_mul-eq-mul_right (2 ^ j) (pow_pos j) (d * 2 ^ k * e) (n * 2 ^ l)
    (mul_right_comm (d * 2 ^ k) e (2 ^ j) ∙ ap (λ (z : ℕ). z * e) (mul_assoc d (2 ^ k) (2 ^ j) ∙ ap (λ (z : ℕ). d * z) (sym (pow-add 2 k j)))
    ∙ sym h ∙ ap (λ (z : ℕ). n * z) (pow-add 2 l j) ∙ sym (mul_assoc n (2 ^ l) (2 ^ j)))

-- bits: the multiple of 2 ^ -72
pub scaled_units : (x : Float) (b : ℕ) → Decoded x b → scaled (field_of b) (digits_of b) * den x ≡ num x * 2 ^ 72
scaled_units x b d =
    let f : field_of b - 1 ≡ field_of b - 1003 + 1002 = omega (arith, d.least) in
    cross (num x) (den x) (digits_of b) (field_of b - 1003) 72 1002 (d.value ∙ ap (λ (j : ℕ). digits_of b * 2 ^ j * den x) f)

-- so every number that a cell shows is such a multiple
pub units_of : (x : Float) → Measured x → (u : ℕ) × (u * den x ≡ num x * 2 ^ 72)
units_of x m =
    let b = to_bits binary64 x in
    by_cases _ (eqb b 0) (λ z. (0, zero_units x m (eqb-true b 0 z)))
    (λ z. (scaled (field_of b) (digits_of b), scaled_units x b (decoded x m (eqb-false b 0 z))))

-- it is below 2 ^ 76
pub scaled_small : (field digits : ℕ) → field ≤ 1026 → digits < 2 ^ 53 → scaled field digits < 2 ^ 76
scaled_small field digits h l =
    let k : 2 ^ (field - 1003) ≤ 2 ^ 23 = pow_mono {i = field - 1003} {j = 23} (omega arith) in
    let m : digits * 2 ^ (field - 1003) ≤ digits * 2 ^ 23 = mul-le-mul_left digits k in
    omega (arith, m, l)

-- so a shift in 128 bits loses nothing of it
pub shifted : (b n : ℕ) → n ≡ digits_of b → field_of b ≤ 1026 → n * 2 ^ (field_of b - 1003) % 2 ^ 128 ≡ scaled (field_of b) (digits_of b)
shifted b n e h =
    ap (λ (d : ℕ). d * 2 ^ (field_of b - 1003) % 2 ^ 128) e
    ∙ mod-eq_of_lt (omega (arith, scaled_small (field_of b) (digits_of b) h (omega arith)))

-- the whole part, and what stands after the point
pub expansion_whole : (u : ℕ) → u % 2 ^ 72 ≡ 0 → decimal (u / 2 ^ 72) ≡ expansion u (2 ^ 72)
unfolding expansion
expansion_whole u z = sym (rw (eq-eqb (u % 2 ^ 72) 0 z) (append-nil (decimal (u / 2 ^ 72))))

pub expansion_parts : (u : ℕ) → (u % 2 ^ 72 ≡ 0 → ⊥) → decimal (u / 2 ^ 72) ++ ((46 ∷ []) ++ decimals 1074 (u % 2 ^ 72) (2 ^ 72)) ≡ expansion u (2 ^ 72)
unfolding expansion
expansion_parts u z = sym (rw (ne_eqb (u % 2 ^ 72) 0 z))

-- one decimal more
pub decimals_more : (n m r : ℕ) → n ≡ m + 1 → (r ≡ 0 → ⊥) → ((48 + 10 * r / 2 ^ 72) ∷ []) ++ decimals m (10 * r % 2 ^ 72) (2 ^ 72) ≡ decimals n r (2 ^ 72)
decimals_more n m r e z = sym (ap (λ (k : ℕ). decimals k r (2 ^ 72)) (e ∙ add-one m) ∙ decimals_next m r (2 ^ 72) z)

pub decimals_none : (n r : ℕ) → r ≡ 0 → [] ≡ decimals n r (2 ^ 72)
decimals_none n r z = sym (ap (λ (s : ℕ). decimals n s (2 ^ 72)) z ∙ decimals_done n (2 ^ 72))

pub decimals_out : (n r : ℕ) → n ≤ 0 → [] ≡ decimals n r (2 ^ 72)
unfolding decimals
decimals_out zero r h = refl
decimals_out (suc n) r h = absurd (omega arith)

-- a number has the expansion of its units
pub expansion_units : (x : Float) (u : ℕ) → u * den x ≡ num x * 2 ^ 72 → expansion u (2 ^ 72) ≡ expansion (num x) (den x)
expansion_units x u e = expansion_same u (2 ^ 72) (num x) (den x) (pow_pos 72) (den_pos x) e
