-- Bytes, or other numbers of one width, and their rows: each determines the other; bytes of a word. Assumes nothing.
use mathlib.Core.Path.{◌≡◌, refl, sym, ap, ◌∙◌, subst}
use mathlib.Core.Bool.{Bool, true, false, ◌||◌, or-false}
use mathlib.Core.List.{List, [], ◌∷◌}
use Prim.Native.Nat.{ℕ, zero, suc, ◌+◌, ◌-◌, ◌*◌, ◌/◌, ◌%◌, ◌^◌, ◌≤◌, ◌<◌}
use native.Mathlib.Nat.{pow-succ', zero-div, div-div-eq-div-mul, mul_comm}
use native.Mathlib.Decide.{dec_lt}
use native.Mathlib.Omega.{arith}
use borrow.Author.Tests.{eqb-true, eqb-false}
use lib.Arith.{digits_lt, digits_div, digits_mod}
use lib.Bits.{bit_or}
use lib.Dec.{eqb}
use lib.ListN.{length, get_or, set, take, drop}
use lib.Pow.{are_bytes, shl_exact}
use lib.Seq.{ext_get_or, get_or-take, get_or-drop, get_or-set_same, get_or-set_other, length-take-le}
use Rattle.answers.proofs.Bytes.{byte_at}
use Rattle.gf2.proofs.Bits.{bit_lt}
use Rattle.gf2.proofs.Lists.{Filled, length_row_from, get_or_row_from}
use Rattle.gf2.specs.Poly.{bit}
use Rattle.words.specs.Bytes.{bit_of, bit_in, bits_of, row_of, byte_of}
use Rattle.words.proofs.Shifts.{bit_of_or, bit_of_mod, bit_of_high, bit_of_shr, bit_of_shl, bit_of_shl_low}

pub length_bits_of : (width : ℕ) (numbers : List ℕ) → length (bits_of width numbers) ≡ width * length numbers
unfolding bits_of
length_bits_of width numbers = length_row_from _ 0 (width * length numbers)

pub get_or_bits_of : (width : ℕ) (numbers : List ℕ) (p : ℕ) → p < width * length numbers → get_or (bits_of width numbers) p false ≡ bit_in width numbers p
unfolding bits_of
get_or_bits_of width numbers p h = get_or_row_from (bit_in width numbers) (width * length numbers) p h

pub bit_of_zero : (k : ℕ) → bit_of 0 k ≡ false
unfolding bit_of
bit_of_zero k = ap (λ (n : ℕ). eqb (n % 2) 1) (zero-div (2 ^ k))

-- the lowest bit, and the others
pub lowest_bit : (x : ℕ) → bit (bit_of x 0) ≡ x % 2
unfolding bit_of
lowest_bit x = go (eqb (x / 2 ^ 0 % 2) 1) refl
  where
    go : (b : Bool) → eqb (x / 2 ^ 0 % 2) 1 ≡ b → bit b ≡ x % 2
    go true e = omega (arith, eqb-true (x / 2 ^ 0 % 2) 1 e)
    go false e = omega (arith, eqb-false (x / 2 ^ 0 % 2) 1 e)

pub bit_of_half : (x k : ℕ) → bit_of x (suc k) ≡ bit_of (x / 2) k
unfolding bit_of
bit_of_half x k = sym (ap (λ (n : ℕ). eqb (n % 2) 1) (div-div-eq-div-mul x 2 (2 ^ k) ∙ ap (λ (m : ℕ). x / m) (sym (pow-succ' 2 k))))

-- the bits of the number that some bits make
pub bit_of_packed : (bits : List Bool) (k : ℕ) → bit_of (byte_of bits) k ≡ get_or bits k false
unfolding bit_of
bit_of_packed [] k = bit_of_zero k
bit_of_packed (true ∷ bits) zero = ap (λ (n : ℕ). eqb n 1) odd
  where
    odd : (1 + 2 * byte_of bits) / 2 ^ 0 % 2 ≡ 1
    odd = omega arith
bit_of_packed (false ∷ bits) zero = ap (λ (n : ℕ). eqb n 1) even
  where
    even : (0 + 2 * byte_of bits) / 2 ^ 0 % 2 ≡ 0
    even = omega arith
bit_of_packed (b ∷ bits) (suc k) = bit_of_half (bit b + 2 * byte_of bits) k ∙ ap (λ (n : ℕ). bit_of n k) half ∙ bit_of_packed bits k
  where
    half : (bit b + 2 * byte_of bits) / 2 ≡ byte_of bits
    half = omega (arith, bit_lt b)

pub packed_lt : (n : ℕ) (bits : List Bool) → length bits ≤ n → byte_of bits < 2 ^ n
packed_lt zero [] h = omega arith
packed_lt zero (b ∷ bits) h = absurd (omega arith)
packed_lt (suc n) [] h = omega (arith, pow-succ' 2 n, packed_lt n [] (omega arith))
packed_lt (suc n) (b ∷ bits) h = omega (arith, pow-succ' 2 n, packed_lt n bits (omega arith), bit_lt b)

-- bytes filled from a row have its leading places as their row
pub bytes_filled : (row : List Bool) (bytes : List ℕ) (k : ℕ) → 8 * length bytes ≤ length row → length bytes ≤ k
    → Filled 0 (λ i. byte_of (take 8 (drop (8 * i) row))) bytes k → row_of bytes ≡ take (8 * length bytes) row
bytes_filled row bytes k long done filled =
    ext_get_or false (row_of bytes) (take (8 * length bytes) row) (length_bits_of 8 bytes ∙ sym (length-take-le (8 * length bytes) row long))
    (λ p h. let here : p < 8 * length bytes = omega (arith, length_bits_of 8 bytes) in
    get_or_bits_of 8 bytes p here ∙ ap (λ (n : ℕ). bit_of n (p % 8)) (filled (p / 8) (omega arith))
    ∙ bit_of_packed (take 8 (drop (8 * (p / 8)) row)) (p % 8) ∙ get_or-take 8 (drop (8 * (p / 8)) row) (p % 8) false (omega arith)
    ∙ get_or-drop (8 * (p / 8)) row (p % 8) false ∙ ap (λ (n : ℕ). get_or row n false) (omega arith) ∙ sym (get_or-take (8 * length bytes) row p false here))

-- a number below 2^n is its n lowest bits
pub bits_once : (n x y : ℕ) → x < 2 ^ n → y < 2 ^ n → ((k : ℕ) → k < n → bit_of x k ≡ bit_of y k) → x ≡ y
bits_once zero x y hx hy h = omega arith
bits_once (suc n) x y hx hy h =
    omega (
      arith,
      lowest_bit x,
      lowest_bit y,
      ap bit (h zero (omega arith)),
      bits_once n (x / 2) (y / 2) (omega (arith, pow-succ' 2 n)) (omega (arith, pow-succ' 2 n)) (λ k l. sym (bit_of_half x k) ∙ h (suc k) (omega arith) ∙ bit_of_half y k),
    )

-- A ROW DETERMINES ITS NUMBERS
pub numbers_once : (width : ℕ) (xs ys : List ℕ) → ((k : ℕ) → get_or xs k 0 < 2 ^ width) → ((k : ℕ) → get_or ys k 0 < 2 ^ width) → length xs ≡ length ys
    → bits_of width xs ≡ bits_of width ys → xs ≡ ys
numbers_once width xs ys bx by l e =
    ext_get_or 0 xs ys l (λ k h. bits_once width (get_or xs k 0) (get_or ys k 0) (bx k) (by k)
    (λ j g. sym (bit_at xs k j h g) ∙ ap (λ row. get_or row (k * width + j) false) e ∙ bit_at ys k j (omega arith) g))
  where
    bit_at : (zs : List ℕ) (k j : ℕ) → k < length zs → j < width → get_or (bits_of width zs) (k * width + j) false ≡ bit_of (get_or zs k 0) j
    bit_at zs k j h g =
        get_or_bits_of width zs (k * width + j) (subst (λ (n : ℕ). k * width + j < n) (mul_comm (length zs) width) (digits_lt h g))
        ∙ (λ i. bit_of (get_or zs (digits_div k g i) 0) (digits_mod k g i))

-- and so its bytes
pub row_once : (xs ys : List ℕ) → are_bytes xs ≡ true → are_bytes ys ≡ true → length xs ≡ length ys → row_of xs ≡ row_of ys → xs ≡ ys
row_once xs ys bx by = numbers_once 8 xs ys (byte_at xs bx) (byte_at ys by)

-- A BYTE MORE OF A WORD, the first lowest; `byte` tells which they are
module _ (byte : ℕ → ℕ) (j w x : ℕ) (h : j < 8) (e : x ≡ byte j) (small : x < 2 ^ 8)
    (old : (k : ℕ) → k < 8 * j → bit_of w k ≡ bit_of (byte (k / 8)) (k % 8)) (none : (k : ℕ) → 8 * j ≤ k → bit_of w k ≡ false) where
  with_byte : (k : ℕ) → bit_of (bit_or w (x * 2 ^ (8 * j) % 2 ^ 64)) k ≡ (bit_of w k || bit_of (x * 2 ^ (8 * j)) k)
  with_byte k = bit_of_or w (x * 2 ^ (8 * j) % 2 ^ 64) k ∙ ap (λ (n : ℕ). bit_of w k || bit_of n k) (shl_exact 8 (8 * j) 64 small (omega arith))

  from_byte : (k : ℕ) → 8 * j ≤ k → bit_of (bit_or w (x * 2 ^ (8 * j) % 2 ^ 64)) k ≡ bit_of x (k - 8 * j)
  from_byte k l =
      let up : k ≡ 8 * j + (k - 8 * j) = omega arith in
      with_byte k ∙ (λ i. none k l i || (ap (bit_of (x * 2 ^ (8 * j))) up ∙ bit_of_shl x (8 * j) (k - 8 * j)) i)

  pub byte_more : (k : ℕ) → k < 8 * (j + 1) → bit_of (bit_or w (x * 2 ^ (8 * j) % 2 ^ 64)) k ≡ bit_of (byte (k / 8)) (k % 8)
  byte_more k l =
      elim (dec_lt k (8 * j)) [
        | yes g ↦ with_byte k ∙ ap (λ z. bit_of w k || z) (bit_of_shl_low x (8 * j) k g) ∙ or-false (bit_of w k) ∙ old k g
        | no g ↦
            let q : j ≡ k / 8 = omega arith in
            let r : k - 8 * j ≡ k % 8 = omega arith in
            from_byte k (omega arith) ∙ (λ i. bit_of (e i) (k - 8 * j)) ∙ (λ i. bit_of (byte (q i)) (r i))
      ]

  pub byte_none : (k : ℕ) → 8 * (j + 1) ≤ k → bit_of (bit_or w (x * 2 ^ (8 * j) % 2 ^ 64)) k ≡ false
  byte_none k l = from_byte k (omega arith) ∙ bit_of_high x 8 (k - 8 * j) small (omega arith)

-- A BYTE MORE OF A ROW IN WORDS
pub byte_put : (row out : List ℕ) (k v : ℕ) → k < length out → v ≡ get_or row (k / 8) 0 / 2 ^ (8 * (k % 8)) % 2 ^ 8
    → ((p : ℕ) → p < 8 * k → bit_in 8 out p ≡ bit_in 64 row p) → (p : ℕ) → p < 8 * (k + 1) → bit_in 8 (set out k v) p ≡ bit_in 64 row p
byte_put row out k v h e old p l =
    elim (dec_lt p (8 * k)) [
      | yes g ↦ ap (λ (x : ℕ). bit_of x (p % 8)) (get_or-set_other out k (p / 8) v 0 (λ q. omega arith)) ∙ old p g
      | no g ↦
          let here : p / 8 ≡ k = omega arith in
          let word : k / 8 ≡ p / 64 = omega arith in
          let weight : 8 * (k % 8) + p % 8 ≡ p % 64 = omega arith in
          (λ t. bit_of (get_or (set out k v) (here t) 0) (p % 8)) ∙ ap (λ (x : ℕ). bit_of x (p % 8)) (get_or-set_same out k v 0 h ∙ e)
          ∙ bit_of_mod (get_or row (k / 8) 0 / 2 ^ (8 * (k % 8))) 8 (p % 8) (omega arith) ∙ bit_of_shr (get_or row (k / 8) 0) (8 * (k % 8)) (p % 8)
          ∙ (λ t. bit_of (get_or row (word t) 0) (weight t))
    ]
