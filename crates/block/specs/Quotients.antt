-- What the private functions of src/check.rt on one word owe. No public promise cites this file. The first place of a word has weight 1, so a word is
-- divided from its lowest bit on, and a shift to the left moves its places behind. Assumes nothing.
use Rattle.std.specs.Prelude.{List, [], ◌∷◌, ℕ, ◌*◌, ◌%◌, ◌^◌}
use Rattle.std.specs.Int.Bits.{bit_xor}

-- a word, and behind it the same word at each of these distances, as far as the 64 places go: its product with a polynomial whose terms lie so far apart
unfoldable pub spread : List ℕ → ℕ → ℕ
spread [] word = word
spread (s ∷ ss) word = bit_xor (word * 2 ^ s % 2 ^ 64) (spread ss word)

-- The quotient is the product with the divisor, its square, its fourth power and so on: by x^112 + x^88 + x^16 + 1,
unfoldable pub first_quotient : ℕ → ℕ
first_quotient word = spread (48 ∷ []) (spread (24 ∷ []) word)

-- by x^56 + x^44 + x^8 + 1,
unfoldable pub second_quotient : ℕ → ℕ
second_quotient word = spread (48 ∷ []) (spread (24 ∷ []) (spread (12 ∷ 48 ∷ 56 ∷ []) word))

-- and by x^14 + x^11 + x^2 + 1, of a word whose first 16 places are zero
unfoldable pub last_quotient : ℕ → ℕ
last_quotient word = spread (24 ∷ []) (spread (12 ∷ []) (spread (6 ∷ 24 ∷ 28 ∷ []) (spread (3 ∷ 12 ∷ 14 ∷ []) word)))
