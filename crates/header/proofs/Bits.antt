-- The bits of a number, what its check keeps, and a header with its check. Assumes nothing.
use Prim.Native.Nat.{ℕ, zero, suc, ◌+◌, ◌*◌, ◌/◌, ◌%◌, ◌^◌, ◌<◌}
use mathlib.Core.Path.{◌≡◌, refl, ap, ◌∙◌, subst}
use mathlib.Core.Bool.{Bool, true}
use mathlib.Core.List.{List, [], ◌∷◌, map}
use native.Mathlib.Nat.{add-zero, add-suc, one-mul, div-eq_of_lt, lt_of_lt_of_le, le-add_right, mod-eq_of_lt}
use native.Mathlib.Omega.{arith}
use borrow.Author.Tests.{eq-eqb, eqb-true}
use lib.Dec.{eqb}
use lib.ListN.{length, replicate, length-map, length-replicate}
use lib.Pow.{pow_mono}
use Rattle.gf2.specs.Poly.{bit, check_of}
use Rattle.gf2.proofs.Bits.{bit_lt}
use Rattle.gf2.proofs.Remainders.{check_zero, length_check}
use Rattle.header.specs.Header.{Fit, total, behind, packed, fields, bits, number, six, check, with_check, header, holds}
use Rattle.header.proofs.Fields.{packed_lt, fields_behind, behind_fields, length_fields, total_each}

pub bit_of : (x : ℕ) → x < 2 → bit (eqb x 1) ≡ x
bit_of zero h = refl
bit_of (suc zero) h = refl
bit_of (suc (suc n)) h = absurd (omega arith)

-- the last n + 1 bits: bit n, and the last n
pub bits_more : (n x : ℕ) → bits (suc n) x ≡ eqb (x / 2 ^ n % 2) 1 ∷ bits n x
unfolding bits
bits_more n x = ap (λ (k : ℕ). eqb (x / 2 ^ k % 2) 1 ∷ bits n x) (total_each 1 n ∙ one-mul n)

pub length_bits : (n x : ℕ) → length (bits n x) ≡ n
unfolding bits
length_bits n x = length-map (fields (replicate n 1) x) (λ v. eqb v 1) ∙ length_fields (replicate n 1) x ∙ length-replicate n 1

-- a row of bits behind a number
abbrev pub onto : ℕ → List Bool → ℕ
onto before row = behind before (replicate (length row) 1) (map bit row)

row_fits : (row : List Bool) → Fit (replicate (length row) 1) (map bit row)
row_fits [] = tt
row_fits (b ∷ row) = (bit_lt b, row_fits row)

-- A CHECK HAS SIX BITS
pub check_fits : (n x : ℕ) → check n x < 64
unfolding check
check_fits n x =
    let row = check_of six (bits n x) in
    subst (λ (k : ℕ). check n x < 2 ^ k) (total_each 1 (length row) ∙ ap (λ (k : ℕ). 1 * k) (length_check six (bits n x)))
    (packed_lt (replicate (length row) 1) (map bit row) (row_fits row))

-- ZEROS IN FRONT DO NOT CHANGE THE CHECK
pub check_wider : (n k x : ℕ) → x < 2 ^ n → check (n + k) x ≡ check n x
unfolding check
check_wider n zero x h = rw add-zero
check_wider n (suc k) x h =
    rw add-suc
    (let none : x / 2 ^ (n + k) ≡ 0 = div-eq_of_lt (lt_of_lt_of_le h (pow_mono (le-add_right n k))) in
    ap (λ (row : List Bool). number (check_of six row)) (bits_more (n + k) x ∙ ap (λ (q : ℕ). eqb (q % 2) 1 ∷ bits (n + k) x) none)
    ∙ ap number (check_zero six (bits (n + k) x))
    ∙ check_wider n k x h)

-- ---- a header and its check

module _ (n x : ℕ) where
  pub high : with_check n x / 64 ≡ x
  high = omega (arith, check_fits n x)

  pub check_holds : holds n (with_check n x) ≡ true
  check_holds =
      let low : with_check n x % 64 ≡ check n x = omega (arith, check_fits n x) in
      rw (high, low) (eq-eqb (check n x) (check n x) refl)

pub check_again : (n h : ℕ) → holds n h ≡ true → with_check n (h / 64) ≡ h
check_again n h e = let c = eqb-true (check n (h / 64)) (h % 64) e in rw c (omega arith)

-- A HEADER WRITTEN IS READ
pub header_read : (ws vs : List ℕ) → Fit ws vs → fields ws (header ws vs / 64) ≡ vs
header_read ws vs f = ap (fields ws) (high (total ws) (packed ws vs)) ∙ fields_behind 0 ws vs f

-- A HEADER READ, WITH A RIGHT CHECK, IS WRITTEN AGAIN
pub header_again : (ws : List ℕ) (h : ℕ) → holds (total ws) h ≡ true → h / 64 < 2 ^ total ws → header ws (fields ws (h / 64)) ≡ h
header_again ws h e l =
    let x : packed ws (fields ws (h / 64)) ≡ h / 64 = behind_fields 0 ws (h / 64) ∙ omega (arith, mod-eq_of_lt l) in
    ap (with_check (total ws)) x ∙ check_again (total ws) h e
