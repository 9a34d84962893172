-- Document 01, "The block": 34 bytes and the 272 positions, by a rule for numbers of any width. Assumes nothing.
use Rattle.std.specs.Prelude.{Bool, List, [], ◌∷◌, ℕ, ◌+◌, ◌*◌, ◌/◌, ◌%◌, ◌^◌, eqb, length, get_or}
use Rattle.gf2.specs.Poly.{bit, row_from}

-- the bit of weight 2^k
unfoldable pub bit_of : ℕ → ℕ → Bool
bit_of number k = eqb (number / 2 ^ k % 2) 1

-- Of numbers of `width` bits, position p is the bit of weight 2^(p mod width) in number p / width.
abbrev pub bit_in : (width : ℕ) → List ℕ → ℕ → Bool
bit_in width numbers p = bit_of (get_or numbers (p / width) 0) (p % width)

-- all their positions, in one row
unfoldable pub bits_of : (width : ℕ) → List ℕ → List Bool
bits_of width numbers = row_from (bit_in width numbers) 0 (width * length numbers)

-- Position p is the bit of weight 2^(p mod 8) in byte p / 8.
abbrev pub row_of : List ℕ → List Bool
row_of bytes = bits_of 8 bytes

-- the number with these bits, lowest weight first
abbrev pub byte_of : List Bool → ℕ
byte_of [] = 0
byte_of (b ∷ bits) = bit b + 2 * byte_of bits
