-- How long the text of a number is that a cell shows. Assumes nothing.
use Prim.Native.Nat.{ℕ, suc, zero, ◌+◌, ◌-◌, ◌*◌, ◌/◌, ◌%◌, ◌^◌, ◌<◌, ◌≤◌}
use mathlib.Core.Path.{◌≡◌, refl, ap, sym, ◌∙◌, subst}
use mathlib.Core.Bool.{Bool, true, false}
use mathlib.Core.List.{List, [], ◌++◌}
use native.Mathlib.Nat.{mul_comm, mul_assoc, mul_right_comm, add-mul, mul-sub, zero-mul, suc-mul, pow-suc, mod-lt, div-add-mod'}
use native.Mathlib.Omega.{arith}
use lib.Dec.{eqb}
use lib.ListN.{length, length-append}
use lib.Pow.{pow_pos}
use lib.Ieee.{Float}
use lib.Ieee.Positive.{num, den}
use borrow.Author.Tests.{eqb-true, eqb-false}
use Rattle.logs.specs.declared.Counts.{Counts}
use Rattle.logs.specs.Log.{is_counts}
use Rattle.logs.proofs.Lists.{by_cases, cond_with}
use Rattle.summary.specs.declared.Summary.{Summary}
use Rattle.summary.specs.Summary.{summary_of}
use Rattle.summary.specs.Report.{frequency}
use Rattle.summary.specs.Export.{decimals, expansion, cell, sheet_row, sheet_names}
use Rattle.summary.specs.Building.{room, Measured}
use Rattle.summary.proofs.Fits.{Short, two, number_short, ended_short}
use Rattle.summary.proofs.Expansion.{decimals_done, decimals_next}
use Rattle.summary.proofs.Same.{mean_given, missing_given}
use Rattle.summary.proofs.Units.{units_of, expansion_units}

-- ---- the length

pub small_zero : (r q d : ℕ) → r < d → r * 1 ≡ q * d → r ≡ 0
small_zero r zero d h e = omega (arith, e, zero-mul d)
small_zero r (suc q) d h e = absurd (omega (arith, e, suc-mul q d))

pub less : (a b c d : ℕ) → a + b * d ≡ c * d → a ≡ (c - b) * d
less a b c d e =
    let s : (c - b) * d ≡ c * d - b * d = mul_comm (c - b) d ∙ mul-sub d c b ∙ swap (mul_comm d c) (mul_comm d b) in
    omega (arith, s)
  where
    swap : {x y z w : ℕ} → x ≡ y → z ≡ w → x - z ≡ y - w
    swap p q = λ i. p i - q i

-- what is left over, doubled often enough, is whole
pub left_over : (k r d q : ℕ) → r * 2 ^ suc k ≡ q * d → 10 * r % d * 2 ^ k ≡ (5 * q - 10 * r / d * 2 ^ k) * d
left_over k r d q e =
    let p = 2 ^ k in
    let a : 10 * r / d * d * p + 10 * r % d * p ≡ 10 * r * p = sym (add-mul (10 * r / d * d) (10 * r % d) p) ∙ ap (λ (n : ℕ). n * p) (div-add-mod' (10 * r) d) in
    let b : 10 * r / d * p * d ≡ 10 * r / d * d * p = mul_right_comm (10 * r / d) p d in
    let f : 10 * r * p ≡ 10 * (r * p) = mul_assoc 10 r p in
    let g : r * 2 ^ suc k ≡ r * p * 2 = ap (λ (n : ℕ). r * n) (pow-suc 2 k) ∙ sym (mul_assoc r p 2) in
    let h : 5 * q * d ≡ 5 * (q * d) = mul_assoc 5 q d in
    less (10 * r % d * p) (10 * r / d * p) (5 * q) d (omega (arith, a, b, f, g, h, e))

no_more : (r d : ℕ) → decimals 0 r d ≡ []
unfolding decimals
no_more r d = refl

decimals_short : (k n r d q : ℕ) → 0 < d → r < d → r * 2 ^ k ≡ q * d → length (decimals n r d) ≤ k
decimals_short zero n r d q D h e =
    let z : decimals n r d ≡ [] = ap (λ (s : ℕ). decimals n s d) (small_zero r q d h e) ∙ decimals_done n d in
    omega (arith, ap length z)
decimals_short (suc k) zero r d q D h e = omega (arith, ap length (no_more r d))
decimals_short (suc k) (suc n) r d q D h e =
    by_cases _ (eqb r 0)
    (λ z.
    let w : decimals (suc n) r d ≡ [] = ap (λ (s : ℕ). decimals (suc n) s d) (eqb-true r 0 z) ∙ decimals_done (suc n) d in
    omega (arith, ap length w))
    (λ z.
    let w = decimals_next n r d (eqb-false r 0 z) in
    let i = decimals_short k n (10 * r % d) d (5 * q - 10 * r / d * 2 ^ k) D (mod-lt (10 * r) D) (left_over k r d q e) in
    omega (arith, ap length w, i))

expansion_short : (a : ℕ) → Short (expansion a (2 ^ 72)) 93
unfolding expansion
expansion_short a =
    two (number_short (a / 2 ^ 72))
    (cond_with (λ (l : List ℕ). Short l 73) (eqb (a % 2 ^ 72) 0) (λ e. record { most = omega arith })
    (λ e.
    record { most = omega (arith, decimals_short 72 1074 (a % 2 ^ 72) (2 ^ 72) (a % 2 ^ 72) (pow_pos 72) (mod-lt a (pow_pos 72)) refl) }))

number_fits : (x : Float) → Measured x → Short (expansion (num x) (den x)) 93
number_fits x m =
    let u = units_of x m in
    subst (λ (l : List ℕ). Short l 93) (expansion_units x u.0 u.1) (expansion_short u.0)

cell_short : (e : Bool) (x : Float) → Measured x → Short (cell e x) 93
unfolding cell
cell_short true x m = number_fits x m
cell_short false x m = record { most = omega arith }

row_short : (c : Counts) (s : Summary) → Measured s.mean → Measured s.missing → Short (sheet_row c s) 377
unfolding sheet_row
row_short c s m n =
    two (ended_short 9 (number_short c.channel))
    (two (ended_short 9 (number_short (frequency c)))
    (two (ended_short 9 (number_short c.slots))
    (two (ended_short 9 (number_short c.read))
    (two (ended_short 9 (number_short c.clean))
    (two (ended_short 9 (number_short c.bits))
    (two (ended_short 9 (number_short c.noword))
    (two (ended_short 9 (number_short c.check))
    (two (ended_short 9 (number_short c.missing))
    (two (ended_short 9 (cell_short s.mean_exists s.mean m)) (ended_short 10 (cell_short s.missing_exists s.missing n)))))))))))

-- EVERY ROW FITS THE ROOM OF A TEXT, BELOW ITS NAMES TOO
pub sheet_fits : (c : Counts) (s : Summary) → s ≡ summary_of c → is_counts c ≡ true → length (sheet_names ++ sheet_row c s) ≤ room
unfolding sheet_names
sheet_fits c s e k = omega (arith, length-append sheet_names (sheet_row c s), (row_short c s (mean_given s c e k) (missing_given s c e k)).most)

pub row_fits : (c : Counts) (s : Summary) → s ≡ summary_of c → is_counts c ≡ true → length (sheet_row c s) ≤ room
row_fits c s e k = omega (arith, length-append sheet_names (sheet_row c s), sheet_fits c s e k)
