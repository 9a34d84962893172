-- Bits of words under shifts, masks and the bitwise operations. Assumes nothing.
use mathlib.Core.Path.{◌≡◌, refl, sym, ap, ◌∙◌}
use mathlib.Core.Bool.{Bool, true, false, ◌&&◌, ◌||◌, or-false}
use Prim.Native.Nat.{ℕ, suc, ◌+◌, ◌-◌, ◌*◌, ◌/◌, ◌%◌, ◌^◌, ◌≤◌, ◌<◌, min, max}
use native.Mathlib.Nat.{div-eq_of_lt, lt_of_lt_of_le, mul_assoc}
use native.Mathlib.Omega.{arith}
use borrow.Author.Tests.{eqb-true, eqb-false}
use lib.Bits.{bit_and, bit_or, bit_xor, differ, or_shr, and_shr, xor_shr, or_step, and_step, xor_step, shifted_even}
use lib.Dec.{eqb}
use lib.Pow.{field, mod-mod-pow, shr-shr, shl-shr, pow-add, pow_mono}
use Rattle.gf2.specs.Poly.{bit, ◌⊕◌}
use Rattle.gf2.proofs.Bits.{bit_lt}
use Rattle.words.specs.Bytes.{bit_of}

pub bit_of_shr : (x s k : ℕ) → bit_of (x / 2 ^ s) k ≡ bit_of x (s + k)
unfolding bit_of
bit_of_shr x s k = ap (λ (n : ℕ). eqb (n % 2) 1) (shr-shr x s k)

pub bit_of_shl : (x s k : ℕ) → bit_of (x * 2 ^ s) (s + k) ≡ bit_of x k
bit_of_shl x s k = sym (bit_of_shr (x * 2 ^ s) s k) ∙ ap (λ (n : ℕ). bit_of n k) (shl-shr x s)

-- what is shifted in is zero
pub bit_of_shl_low : (x s k : ℕ) → k < s → bit_of (x * 2 ^ s) k ≡ false
unfolding bit_of
bit_of_shl_low x s k h =
    let m = s - k - 1 in
    let e : s ≡ suc m + k = omega arith in
    ap (λ (t : ℕ). eqb (x * 2 ^ t / 2 ^ k % 2) 1) e
    ∙ ap (λ (t : ℕ). eqb (t / 2 ^ k % 2) 1) (ap (λ (t : ℕ). x * t) (pow-add 2 (suc m) k) ∙ sym (mul_assoc x (2 ^ suc m) (2 ^ k)))
    ∙ ap (λ (t : ℕ). eqb (t % 2) 1) (shl-shr (x * 2 ^ suc m) k)
    ∙ ap (λ (t : ℕ). eqb t 1) (shifted_even x m)

-- a number of no more bits than this has no bit there
pub bit_of_high : (x n k : ℕ) → x < 2 ^ n → n ≤ k → bit_of x k ≡ false
unfolding bit_of
bit_of_high x n k h l = ap (λ (m : ℕ). eqb (m % 2) 1) (div-eq_of_lt (lt_of_lt_of_le h (pow_mono l)))

-- the lower bits of a number are its own
pub bit_of_mod : (x n k : ℕ) → k < n → bit_of (x % 2 ^ n) k ≡ bit_of x k
unfolding bit_of
bit_of_mod x n k h =
    let j = n - k - 1 in
    let e : n ≡ j + 1 + k = omega arith in
    ap (λ (m : ℕ). eqb (x % 2 ^ m / 2 ^ k % 2) 1) e ∙ ap (λ (m : ℕ). eqb (m % 2) 1) (field x (j + 1) k) ∙ ap (λ (m : ℕ). eqb m 1) (mod-mod-pow (x / 2 ^ k) j 1)

-- the lowest bit of a number, and the number of a bit
low_bit : (x : ℕ) → x % 2 ≡ bit (eqb (x % 2) 1)
low_bit x = go (eqb (x % 2) 1) refl
  where
    go : (b : Bool) → eqb (x % 2) 1 ≡ b → x % 2 ≡ bit b
    go true e = eqb-true (x % 2) 1 e
    go false e = omega (arith, eqb-false (x % 2) 1 e)

bit_back : (b : Bool) → eqb (bit b) 1 ≡ b
bit_back true = refl
bit_back false = refl

-- AN OPERATION ON WORDS, BIT BY BIT: `low` is what it does with the lowest bits as numbers, `on` with bits
module _ (op low : ℕ → ℕ → ℕ) (on : Bool → Bool → Bool) (shr : (a b k : ℕ) → op a b / 2 ^ k ≡ op (a / 2 ^ k) (b / 2 ^ k))
    (step : (a b : ℕ) → op a b ≡ op (a / 2) (b / 2) * 2 + low (a % 2) (b % 2)) (table : (x y : Bool) → low (bit x) (bit y) ≡ bit (on x y)) where
  bitwise : (a b k : ℕ) → bit_of (op a b) k ≡ on (bit_of a k) (bit_of b k)
  unfolding bit_of
  bitwise a b k =
      let x = a / 2 ^ k in
      let y = b / 2 ^ k in
      let c = on (eqb (x % 2) 1) (eqb (y % 2) 1) in
      let lowest : op x y % 2 ≡ bit c =
      ap (λ (n : ℕ). n % 2) (step x y ∙ ap (λ (n : ℕ). op (x / 2) (y / 2) * 2 + n) ((λ i. low (low_bit x i) (low_bit y i)) ∙ table (eqb (x % 2) 1) (eqb (y % 2) 1)))
      ∙ omega (arith, bit_lt c) in
      ap (λ (n : ℕ). eqb (n % 2) 1) (shr a b k) ∙ ap (λ (n : ℕ). eqb n 1) lowest ∙ bit_back c

or_table : (x y : Bool) → max (bit x) (bit y) ≡ bit (x || y)
or_table true true = refl
or_table true false = refl
or_table false true = refl
or_table false false = refl

and_table : (x y : Bool) → min (bit x) (bit y) ≡ bit (x && y)
and_table true true = refl
and_table true false = refl
and_table false true = refl
and_table false false = refl

xor_table : (x y : Bool) → differ (bit x) (bit y) ≡ bit (x ⊕ y)
xor_table true true = refl
xor_table true false = refl
xor_table false true = refl
xor_table false false = refl

pub bit_of_or : (a b k : ℕ) → bit_of (bit_or a b) k ≡ (bit_of a k || bit_of b k)
bit_of_or = bitwise bit_or max ◌||◌ or_shr or_step or_table

pub bit_of_and : (a b k : ℕ) → bit_of (bit_and a b) k ≡ (bit_of a k && bit_of b k)
bit_of_and = bitwise bit_and min ◌&&◌ and_shr and_step and_table

pub bit_of_xor : (a b k : ℕ) → bit_of (bit_xor a b) k ≡ bit_of a k ⊕ bit_of b k
bit_of_xor = bitwise bit_xor differ ◌⊕◌ xor_shr xor_step xor_table

-- ONE WORD BEHIND ANOTHER, seen from s places on
pub joined_low : (x y s k : ℕ) → k + s < 64 → bit_of (bit_or (x / 2 ^ s) (y * 2 ^ (64 - s) % 2 ^ 64)) k ≡ bit_of x (s + k)
joined_low x y s k l =
    bit_of_or (x / 2 ^ s) (y * 2 ^ (64 - s) % 2 ^ 64) k
    ∙ (λ i. bit_of_shr x s k i || (bit_of_mod (y * 2 ^ (64 - s)) 64 k (omega arith) ∙ bit_of_shl_low y (64 - s) k (omega arith)) i)
    ∙ or-false (bit_of x (s + k))

pub joined_high : (x y s k : ℕ) → x < 2 ^ 64 → s < 64 → 64 ≤ k + s → k < 64 → bit_of (bit_or (x / 2 ^ s) (y * 2 ^ (64 - s) % 2 ^ 64)) k ≡ bit_of y (k + s - 64)
joined_high x y s k f l g m =
    let e : k ≡ 64 - s + (k + s - 64) = omega arith in
    bit_of_or (x / 2 ^ s) (y * 2 ^ (64 - s) % 2 ^ 64) k
    ∙ (λ i. (bit_of_shr x s k ∙ bit_of_high x 64 (s + k) f (omega arith)) i || bit_of_mod (y * 2 ^ (64 - s)) 64 k m i)
    ∙ ap (bit_of (y * 2 ^ (64 - s))) e ∙ bit_of_shl y (64 - s) (k + s - 64)
