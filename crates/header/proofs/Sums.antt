-- The check as sums: each check bit is the sum of some of the header's bits. Assumes nothing.
use Prim.Native.Nat.{ℕ, zero, suc, ◌+◌, ◌*◌, ◌/◌, ◌%◌, ◌^◌, ◌<◌, ◌≤◌}
use mathlib.Core.Path.{◌≡◌, refl, sym, ap, ap₂, ◌∙◌, subst}
use mathlib.Core.Bool.{Bool, true, false, ◌&&◌}
use mathlib.Core.List.{List, [], ◌∷◌, map}
use native.Mathlib.Nat.{mod-lt, mod-one, mod-eq_of_lt, zero-add, lt_of_le_of_lt, pow-suc}
use native.Mathlib.Numerals.{add-one}
use native.Mathlib.Omega.{arith}
use lib.Bits.{bit_and, and_block, and_lt, and_mod, and_le_l}
use lib.Count.{ones, ones_cat, ones_in}
use lib.Dec.{eqb}
use lib.ListN.{length, get_or, drop, replicate, get_or-map}
use lib.Ieee.Bits.{is_true}
use lib.Pow.{pow_pos, mod-pow-add}
use Rattle.gf2.specs.Poly.{bit, ◌⊕◌, scale, add, check_of}
use Rattle.gf2.proofs.Bits.{bit_lt}
use Rattle.gf2.proofs.Lists.{drop_one}
use Rattle.gf2.proofs.Remainders.{check_bit, length_check, add_none, all_zero, all_zero_zeros}
use Rattle.gf2.proofs.Tested.{tested}
use Rattle.header.specs.Header.{bits, six}
use Rattle.header.proofs.Bits.{bit_of, length_bits, bits_more, onto}
use Rattle.header.proofs.Table.{summed}

-- a number is odd
abbrev odd : ℕ → Bool
odd n = eqb (n % 2) 1

-- the sum of those bits of x that m has
abbrev sum_of : ℕ → ℕ → Bool
sum_of x m = odd (ones (bit_and x m))

odd_more : (k r : ℕ) → r ≡ k % 2 → r < 2 → odd (1 + k) ≡ true ⊕ eqb r 1
odd_more k zero e h = let now : (1 + k) % 2 ≡ 1 = omega arith in ap (λ (n : ℕ). eqb n 1) now
odd_more k (suc zero) e h = let now : (1 + k) % 2 ≡ 0 = omega arith in ap (λ (n : ℕ). eqb n 1) now
odd_more k (suc (suc r)) e h = absurd (omega arith)

one_bit : (a c k : ℕ) → a < 2 → c < 2 → odd (ones (bit_and a c) + k) ≡ (eqb a 1 && eqb c 1) ⊕ odd k
unfolding ones ones_in
one_bit zero c k h l = ap odd (zero-add k)
one_bit (suc zero) zero k h l = ap odd (zero-add k)
one_bit (suc zero) (suc zero) k h l = odd_more k (k % 2) refl (mod-lt k (omega arith))
one_bit (suc zero) (suc (suc c)) k h l = absurd (omega arith)
one_bit (suc (suc a)) c k h l = absurd (omega arith)

-- the last n + 1 bits: bit n, and the last n
upper : (n x : ℕ) → x % 2 ^ suc n ≡ x / 2 ^ n % 2 * 2 ^ n + x % 2 ^ n
upper n x = let e : 1 + n ≡ suc n = omega arith in subst (λ (k : ℕ). x % 2 ^ k ≡ x / 2 ^ n % 2 * 2 ^ n + x % 2 ^ n) e (mod-pow-add x 1 n)

sum_more : (n x m : ℕ)
    → sum_of (x % 2 ^ suc n) (m % 2 ^ suc n) ≡ (eqb (x / 2 ^ n % 2) 1 && eqb (m / 2 ^ n % 2) 1) ⊕ sum_of (x % 2 ^ n) (m % 2 ^ n)
sum_more n x m =
    let r = x % 2 ^ n in
    let s = m % 2 ^ n in
    let below : (k : ℕ) → k % 2 ^ n < 2 ^ n = λ k. mod-lt k (pow_pos n) in
    ap₂ sum_of (upper n x) (upper n m)
    ∙ ap (λ (k : ℕ). odd (ones k)) (and_block n (x / 2 ^ n % 2) (m / 2 ^ n % 2) r s (below x) (below m))
    ∙ ap odd (ones_cat n (bit_and (x / 2 ^ n % 2) (m / 2 ^ n % 2)) (bit_and r s) (and_lt n r s (below x) (below m)))
    ∙ one_bit (x / 2 ^ n % 2) (m / 2 ^ n % 2) (ones (bit_and r s)) (mod-lt (x / 2 ^ n) (omega arith)) (mod-lt (m / 2 ^ n) (omega arith))

-- what bit n brings into the check, and the check bits that sum it
abbrev brought : ℕ → List Bool
brought n = check_of six (true ∷ replicate n false)

abbrev summing : List ℕ → ℕ → List Bool
summing masks n = map (λ m. eqb (m / 2 ^ n % 2) 1) masks

abbrev sums : List ℕ → ℕ → ℕ → List Bool
sums masks n x = map (λ m. sum_of (x % 2 ^ n) (m % 2 ^ n)) masks

no_sums : (masks : List ℕ) (x : ℕ) → sums masks 0 x ≡ replicate (length masks) false
unfolding ones ones_in
no_sums [] x = refl
no_sums (m ∷ masks) x = ap₂ (λ (b : Bool) (bs : List Bool). b ∷ bs) (ap (λ (k : ℕ). sum_of k (m % 1)) (mod-one x)) (no_sums masks x)

more_sums : (masks : List ℕ) (n x : ℕ) → sums masks (suc n) x ≡ add (scale (eqb (x / 2 ^ n % 2) 1) (summing masks n)) (sums masks n x)
more_sums [] n x = refl
more_sums (m ∷ masks) n x = ap₂ (λ (b : Bool) (bs : List Bool). b ∷ bs) (sum_more n x m) (more_sums masks n x)

-- THE TABLE HAS AT EACH BIT THE CHECK BITS THAT THIS BIT BRINGS IN
as_table : (n : ℕ) → n < 64 → brought n ≡ summing summed n
as_table n h =
    let both = add (brought n) (summing summed n) in
    let none : both ≡ replicate (length both) false = all_zero_zeros both (is_true (all_zero both) (tested 64 (λ k. all_zero (add (brought k) (summing summed k))) tt n h)) in
    add_none (brought n) (summing summed n) (length both) (length_check six (true ∷ replicate n false)) none

sums_check : (n x : ℕ) → n ≤ 64 → check_of six (bits n x) ≡ sums summed n x
unfolding bits
sums_check zero x h = sym (no_sums summed x)
sums_check (suc n) x h =
    let b = eqb (x / 2 ^ n % 2) 1 in
    ap (check_of six) (bits_more n x)
    ∙ check_bit six b (bits n x)
    ∙ ap (λ (k : ℕ). add (scale b (brought k)) (check_of six (bits n x))) (length_bits n x)
    ∙ ap₂ (λ (ws rs : List Bool). add (scale b ws) rs) (as_table n (omega arith)) (sums_check n x (omega arith))
    ∙ sym (more_sums summed n x)

-- SO THE CHECK IS SIX SUMS
check_row : (x : ℕ) → x < 2 ^ 64 → check_of six (bits 64 x) ≡ map (sum_of x) summed
check_row x h =
    let whole : (m : ℕ) → bit_and (x % 2 ^ 64) (m % 2 ^ 64) ≡ bit_and x m = λ m. sym (and_mod x m 64) ∙ mod-eq_of_lt (lt_of_le_of_lt (and_le_l x m) h) in
    sums_check 64 x (omega arith) ∙ (λ i. map (λ m. odd (ones (whole m i))) summed)

-- a check bit more
pub check_turn : (x : ℕ) → x < 2 ^ 64 → (whole so_far i : ℕ) → i < 6 → so_far < 2 ^ i → onto so_far (drop i (check_of six (bits 64 x))) ≡ whole
    → (sum : ℕ) → sum ≡ ones (bit_and x (get_or summed i 0)) % 2
    → (so_far * 2 + sum < 2 ^ (i + 1)) × (onto (so_far * 2 + sum) (drop (i + 1) (check_of six (bits 64 x))) ≡ whole)
check_turn x h whole so_far i below small e sum is =
    let row = check_of six (bits 64 x) in
    let b = sum_of x (get_or summed i 0) in
    let here : get_or row i (sum_of x 0) ≡ b = ap (λ (r : List Bool). get_or r i (sum_of x 0)) (check_row x h) ∙ get_or-map (sum_of x) summed i 0 in
    let next : drop i row ≡ b ∷ drop (i + 1) row =
    drop_one row i (sum_of x 0) (omega (arith, length_check six (bits 64 x))) ∙ ap (λ (v : Bool). v ∷ drop (i + 1) row) here in
    let now : bit b ≡ sum = bit_of (ones (bit_and x (get_or summed i 0)) % 2) (mod-lt (ones (bit_and x (get_or summed i 0))) (omega arith)) ∙ sym is in
    let double : 2 ^ (i + 1) ≡ 2 ^ i * 2 = rw add-one (pow-suc 2 i) in
    (omega (arith, bit_lt b), ap (λ (s : ℕ). onto (so_far * 2 + s) (drop (i + 1) row)) (sym now) ∙ ap (onto so_far) (sym next) ∙ e)
