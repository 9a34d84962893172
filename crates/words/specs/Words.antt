-- Document 02, tickets 1 and 3: a row of 272 bits as five 64-bit words, in the form of its ticket 12, from bytes and to bytes. Assumes nothing.
use Rattle.std.specs.Prelude.{◌≡◌, Bool, false, List, ℕ, ◌*◌, ◌^◌, ◌<◌, ◌≤◌, length, get_or, take, drop, replicate}
use Rattle.words.specs.Bytes.{bits_of, row_of}

-- Position p is the bit of weight 2^(p mod 64) in word p / 64.
abbrev pub row_of_words : List ℕ → List Bool
row_of_words words = take 272 (bits_of 64 words)

-- five words of 64 bits, of which the top 48 bits of the last are zero
pub record FiveWords (words : List ℕ) : Type 0 where
  pub five : length words ≡ 5
  pub below : (i : ℕ) → get_or words i 0 < 2 ^ 64
  pub top : drop 272 (bits_of 64 words) ≡ replicate 48 false

-- the row of which every position is zero
abbrev pub zero_words : List ℕ
zero_words = replicate 5 0

-- the words of 34 bytes; of another number of bytes, zero
pub record OfBytes (bytes words : List ℕ) : Type 0 where
  pub five : FiveWords words
  pub block : length bytes ≡ 34 → row_of_words words ≡ row_of bytes
  pub other : (length bytes ≡ 34 → ⊥) → words ≡ zero_words

-- the leading bytes of a row, as many as there is room for; more than 34 are left as they were
pub record FilledBytes (words before after : List ℕ) : Type 0 where
  pub long : length after ≡ length before
  pub block : length before ≤ 34 → row_of after ≡ take (8 * length before) (row_of_words words)
  pub other : 34 < length before → after ≡ before
