-- Linear numbers: those that shifts and sums without carry make. Each is the sum of what the single places give, and so is a check. Assumes nothing.
use mathlib.Core.Path.{◌≡◌, refl, sym, ap, ap₂, ◌∙◌}
use mathlib.Core.Bool.{Bool, true, false}
use mathlib.Core.List.{List, [], ◌∷◌}
use Prim.Native.Nat.{ℕ, zero, suc, ◌+◌, ◌*◌, ◌/◌, ◌%◌, ◌^◌, ◌<◌, ◌≤◌}
use native.Mathlib.Nat.{pow-suc, add-zero, lt_of_lt_of_le}
use native.Mathlib.Omega.{arith}
use lib.Bits.{bit_xor, xor_shr, xor_mod, xor_self, xor_comm, xor_block, xor_shifted}
use lib.ListN.{length, replicate}
use lib.Pow.{pow_pos, pow_mono}
use Rattle.gf2.specs.Poly.{◌⊕◌, add, check_of}
use Rattle.gf2.proofs.Bits.{⊕_swap}
use Rattle.gf2.proofs.Remainders.{check_bit, check_zero, scale_true, length_check}
use Rattle.code.specs.Vote.{bit_at}
use Rattle.words.specs.Bytes.{bit_of, byte_of}
use Rattle.words.proofs.Bytes.{bit_of_zero, bits_once}
use Rattle.words.proofs.Shifts.{bit_of_xor}
use Rattle.words.proofs.Words.{same_at, bit_at_add}
use Rattle.block.specs.Quotients.{spread}

-- numbers of the same bits are the same
below_power : (x : ℕ) → x < 2 ^ x
below_power zero = omega arith
below_power (suc x) = omega (arith, pow-suc 2 x, below_power x)

same_bits : (x y : ℕ) → ((k : ℕ) → bit_of x k ≡ bit_of y k) → x ≡ y
same_bits x y h = bits_once (x + y) x y (more x (x + y) (omega arith)) (more y (x + y) (omega arith)) (λ k l. h k)
  where
    more : (x n : ℕ) → x ≤ n → x < 2 ^ n
    more x n l = lt_of_lt_of_le (below_power x) (pow_mono l)

-- LINEAR: what is made of a sum is the sum of what is made of its parts
pub record Linear (f : ℕ → ℕ) : Type 0 where
  pub sums : (x y : ℕ) → f (bit_xor x y) ≡ bit_xor (f x) (f y)

xor_up : (x y k : ℕ) → bit_xor x y * 2 ^ k ≡ bit_xor (x * 2 ^ k) (y * 2 ^ k)
xor_up x y k = sym (simp add-zero at (xor_block k x y 0 0 (pow_pos k) (pow_pos k)))

xor_swap : (a b c d : ℕ) → bit_xor (bit_xor a b) (bit_xor c d) ≡ bit_xor (bit_xor a c) (bit_xor b d)
xor_swap a b c d =
    same_bits (bit_xor (bit_xor a b) (bit_xor c d)) (bit_xor (bit_xor a c) (bit_xor b d))
    (λ k. four a b c d k ∙ ⊕_swap (bit_of a k) (bit_of b k) (bit_of c k) (bit_of d k) ∙ sym (four a c b d k))
  where
    four : (a b c d k : ℕ) → bit_of (bit_xor (bit_xor a b) (bit_xor c d)) k ≡ bit_of a k ⊕ bit_of b k ⊕ (bit_of c k ⊕ bit_of d k)
    four a b c d k = bit_of_xor (bit_xor a b) (bit_xor c d) k ∙ ap₂ ◌⊕◌ (bit_of_xor a b k) (bit_of_xor c d k)

pub whole : Linear (λ n. n)
whole = record { sums = λ x y. refl }

module _ {f : ℕ → ℕ} (l : Linear f) where
  pub down : (k : ℕ) → Linear (λ n. f n / 2 ^ k)
  down k = record { sums = λ x y. ap (λ (m : ℕ). m / 2 ^ k) (l.sums x y) ∙ xor_shr (f x) (f y) k }

  pub low : (k : ℕ) → Linear (λ n. f n % 2 ^ k)
  low k = record { sums = λ x y. ap (λ (m : ℕ). m % 2 ^ k) (l.sums x y) ∙ xor_mod (f x) (f y) k }

  pub up : (k : ℕ) → Linear (λ n. f n * 2 ^ k % 2 ^ 64)
  up k = record {
    sums = λ x y. ap (λ (m : ℕ). m * 2 ^ k % 2 ^ 64) (l.sums x y) ∙ ap (λ (m : ℕ). m % 2 ^ 64) (xor_up (f x) (f y) k) ∙ xor_mod (f x * 2 ^ k) (f y * 2 ^ k) 64;
  }

  pub plus : {g : ℕ → ℕ} → Linear g → Linear (λ n. bit_xor (f n) (g n))
  plus {g} m = record { sums = λ x y. ap₂ bit_xor (l.sums x y) (m.sums x y) ∙ xor_swap (f x) (f y) (g x) (g y) }

  -- a place later
  later : Linear (λ n. f (n * 2 ^ 1))
  later = record { sums = λ x y. ap f (xor_up x y 1) ∙ l.sums (x * 2 ^ 1) (y * 2 ^ 1) }

  of_none : f 0 ≡ 0
  of_none = l.sums 0 0 ∙ xor_self (f 0)

pub spread_linear : {f : ℕ → ℕ} → Linear f → (ss : List ℕ) → Linear (λ n. spread ss (f n))
unfolding spread
spread_linear l [] = l
spread_linear l (s ∷ ss) = plus (up l s) (spread_linear l ss)

-- of a row of n places, each alone gives in bit k what it brings into the check
abbrev pub Brings : List Bool → ℕ → ℕ → (ℕ → ℕ) → Type 0
Brings divisor k n f = (p zeros : ℕ) → p + suc zeros ≡ n → bit_of (f (2 ^ p)) k ≡ bit_at (check_of divisor (true ∷ replicate zeros false)) k

brings_later : (divisor : List Bool) (k n : ℕ) (f : ℕ → ℕ) → Brings divisor k (suc n) f → Brings divisor k n (λ x. f (x * 2 ^ 1))
brings_later divisor k n f h p zeros e = ap (λ (x : ℕ). bit_of (f x) k) (sym (pow-suc 2 p)) ∙ h (suc p) zeros (omega arith)

-- THEN SO DOES EVERY ROW: the number of its places gives bit k of its check
pub single_places : (divisor : List Bool) (k : ℕ) (info : List Bool) (f : ℕ → ℕ) → Linear f → Brings divisor k (length info) f
    → bit_of (f (byte_of info)) k ≡ bit_at (check_of divisor info) k
single_places divisor k [] f l h = ap (λ (n : ℕ). bit_of n k) (of_none l) ∙ bit_of_zero k ∙ sym (same_at false (length divisor) k)
single_places divisor k (false ∷ info) f l h =
    let behind = single_places divisor k info (λ x. f (x * 2 ^ 1)) (later l) (brings_later divisor k (length info) f h) in
    let moved : 0 + 2 * byte_of info ≡ byte_of info * 2 ^ 1 = omega arith in
    ap (λ (x : ℕ). bit_of (f x) k) moved ∙ behind ∙ ap (λ row. bit_at row k) (sym (check_zero divisor info))
single_places divisor k (true ∷ info) f l h =
    let behind = single_places divisor k info (λ x. f (x * 2 ^ 1)) (later l) (brings_later divisor k (length info) f h) in
    let one = check_of divisor (true ∷ replicate (length info) false) in
    let moved : 1 + 2 * byte_of info ≡ byte_of info * 2 ^ 1 + 1 = omega arith in
    ap (λ (x : ℕ). bit_of (f x) k) (moved ∙ sym (xor_shifted (byte_of info) 1 1 (omega arith)) ∙ xor_comm (byte_of info * 2 ^ 1) 1)
    ∙ ap (λ (x : ℕ). bit_of x k) (l.sums 1 (byte_of info * 2 ^ 1)) ∙ bit_of_xor (f 1) (f (byte_of info * 2 ^ 1)) k
    ∙ ap₂ ◌⊕◌ (h 0 (length info) (omega arith)) behind
    ∙ bit_at_add one (check_of divisor info) k (length_check divisor (true ∷ replicate (length info) false) ∙ sym (length_check divisor info))
    ∙ ap (λ row. bit_at row k) (ap (λ row. add row (check_of divisor info)) (sym (scale_true one)) ∙ sym (check_bit divisor true info))
