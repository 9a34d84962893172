-- Laws of the decimal expansion of a fraction: it depends on the fraction's value alone, and it denotes that value. Assumes nothing.
use Prim.Native.Nat.{ℕ, suc, zero, ◌+◌, ◌*◌, ◌/◌, ◌%◌, ◌<◌}
use mathlib.Core.Path.{◌≡◌, refl, ap, sym, ◌∙◌}
use mathlib.Core.Bool.{Bool, cond}
use mathlib.Core.List.{List, [], ◌∷◌, ◌++◌}
use native.Mathlib.Nat.{mul_assoc, mul_right_comm, add-mul, zero-mul, div-add-mod', eq_of_mul-eq-mul_right, add_left_cancel}
use lib.Dec.{eqb}
use lib.Ieee.Nearest.{div_same}
use borrow.Author.Tests.{eqb-true, eqb-false, eq-eqb, ne_eqb}
use Rattle.logs.specs.Decimal.{decimal}
use Rattle.logs.proofs.Lists.{by_cases}
use Rattle.summary.specs.Export.{decimals, expansion}

-- the remainders of equal fractions are equal fractions
mod_same : (a c b d : ℕ) → 0 < c → 0 < d → a * d ≡ b * c → a % c * d ≡ b % d * c
mod_same a c b d C D e =
    let q : a / c ≡ b / d = div_same a c b d C D e in
    let x : a / c * c * d + a % c * d ≡ a * d = sym (add-mul (a / c * c) (a % c) d) ∙ ap (λ (k : ℕ). k * d) (div-add-mod' a c) in
    let y : b / d * d * c + b % d * c ≡ b * c = sym (add-mul (b / d * d) (b % d) c) ∙ ap (λ (k : ℕ). k * c) (div-add-mod' b d) in
    let z : a / c * c * d ≡ b / d * d * c = ap (λ (k : ℕ). k * c * d) q ∙ mul_right_comm (b / d) c d in
    add_left_cancel (b / d * d * c) (ap (λ (k : ℕ). k + a % c * d) (sym z) ∙ x ∙ e ∙ sym y)

-- a fraction is 0 where its equal is
zero_same : (r c s d : ℕ) → 0 < c → 0 < d → r * d ≡ s * c → eqb r 0 ≡ eqb s 0
zero_same r c s d C D e =
    by_cases _ (eqb r 0)
    (λ h. h ∙ sym (eq-eqb s 0 (eq_of_mul-eq-mul_right c C s 0 (sym e ∙ ap (λ (k : ℕ). k * d) (eqb-true r 0 h) ∙ zero-mul d ∙ sym (zero-mul c)))))
    (λ h. h ∙ sym (ne_eqb s 0 (λ z. eqb-false r 0 h (eq_of_mul-eq-mul_right d D r 0 (e ∙ ap (λ (k : ℕ). k * c) z ∙ zero-mul c ∙ sym (zero-mul d))))))

ten_same : (r c s d : ℕ) → r * d ≡ s * c → 10 * r * d ≡ 10 * s * c
ten_same r c s d e = mul_assoc 10 r d ∙ ap (λ (k : ℕ). 10 * k) e ∙ sym (mul_assoc 10 s c)

decimals_same : (n r c s d : ℕ) → 0 < c → 0 < d → r * d ≡ s * c → decimals n r c ≡ decimals n s d
unfolding decimals
decimals_same zero r c s d C D e = refl
decimals_same (suc n) r c s d C D e =
    let t = ten_same r c s d e in
    let q = div_same (10 * r) c (10 * s) d C D t in
    let i = decimals_same n (10 * r % c) c (10 * s % d) d C D (mod_same (10 * r) c (10 * s) d C D t) in
    ap (λ (z : Bool). cond z [] ((48 + 10 * r / c) ∷ decimals n (10 * r % c) c)) (zero_same r c s d C D e)
    ∙ ap (λ (k : ℕ). cond (eqb s 0) [] ((48 + k) ∷ decimals n (10 * r % c) c)) q
    ∙ ap (λ (l : List ℕ). cond (eqb s 0) [] ((48 + 10 * s / d) ∷ l)) i

-- EQUAL FRACTIONS HAVE ONE EXPANSION
pub expansion_same : (a c b d : ℕ) → 0 < c → 0 < d → a * d ≡ b * c → expansion a c ≡ expansion b d
unfolding expansion
expansion_same a c b d C D e =
    let m = mod_same a c b d C D e in
    ap (λ (q : ℕ). decimal q ++ cond (eqb (a % c) 0) [] (46 ∷ decimals 1074 (a % c) c)) (div_same a c b d C D e)
    ∙ ap (λ (z : Bool). decimal (b / d) ++ cond z [] (46 ∷ decimals 1074 (a % c) c)) (zero_same (a % c) c (b % d) d C D m)
    ∙ ap (λ (l : List ℕ). decimal (b / d) ++ cond (eqb (b % d) 0) [] (46 ∷ l)) (decimals_same 1074 (a % c) c (b % d) d C D m)

pub decimals_done : (n d : ℕ) → decimals n 0 d ≡ []
unfolding decimals
decimals_done zero d = refl
decimals_done (suc n) d = refl

pub decimals_next : (n r d : ℕ) → (r ≡ 0 → ⊥) → decimals (suc n) r d ≡ (48 + 10 * r / d) ∷ decimals n (10 * r % d) d
unfolding decimals
decimals_next n r d h = rw (ne_eqb r 0 h)
