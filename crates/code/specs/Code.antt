-- Document 01, "The block": the generator, code words, and where and in how many places two rows differ. Assumes nothing.
use Rattle.std.specs.Prelude.{Bool, List, [], ◌∷◌, ℕ, ◌+◌}
use Rattle.gf2.specs.Poly.{bit, add, lower, Multiple}

-- x^82 + x^77 + x^76 + x^71 + x^67 + x^66 + x^56 + x^52 + x^48 + x^40 + x^36 + x^34 + x^24 + x^22 + x^18 + x^10 + x^4 + 1.
-- As every divisor here, by its coefficients below the leading one: the leading power, here as printed, is none of those and has no effect.
unfoldable pub generator : List Bool
generator = lower 82 (82 ∷ 77 ∷ 76 ∷ 71 ∷ 67 ∷ 66 ∷ 56 ∷ 52 ∷ 48 ∷ 40 ∷ 36 ∷ 34 ∷ 24 ∷ 22 ∷ 18 ∷ 10 ∷ 4 ∷ 0 ∷ [])

-- A code word is a 272-bit row whose polynomial is a multiple of the generator; position p is the coefficient of x^(271-p). The quotient has
-- the 190 places that the row has more than the generator's degree.
abbrev pub CodeWord : List Bool → Type 0
CodeWord row = Multiple generator 190 row

-- the places in which two rows of one length differ: two bits are not the same where their sum is one
abbrev pub difference : List Bool → List Bool → List Bool
difference row word = add row word

-- the number of ones in a row
abbrev pub ones : List Bool → ℕ
ones [] = 0
ones (b ∷ row) = bit b + ones row

-- in how many places two rows differ
abbrev pub distance : List Bool → List Bool → ℕ
distance row word = ones (difference row word)

-- the most places in which a row may differ from the code word that it is corrected to
abbrev pub most_corrected : ℕ
most_corrected = 8
