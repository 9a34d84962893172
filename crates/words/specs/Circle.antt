-- What the private functions of src/circle.rt and src/votes.rt owe. No public promise cites this file. Assumes nothing.
use Rattle.std.specs.Prelude.{◌≡◌, Bool, List, ℕ, ◌+◌, ◌*◌, ◌%◌, ◌<◌, ◌≤◌, leb, length, Option, Some, None}
use Rattle.gf2.specs.Poly.{bit, row_from}
use Rattle.code.specs.Code.{ones, most_corrected}
use Rattle.code.specs.Vote.{bit_at, odd_sums, majority}
use Rattle.words.specs.declared.votes.Planes.{Planes}
use Rattle.words.specs.declared.votes.Turned.{Turned}
use Rattle.words.specs.Bytes.{bit_of, bit_in}
use Rattle.words.specs.Words.{FiveWords, row_of_words}

-- a word has the values of f at 64 places from p on, lowest weight first
abbrev pub Holds : ℕ → (ℕ → Bool) → ℕ → Type 0
Holds word f p = (k : ℕ) → k < 64 → bit_of word k ≡ f (p + k)

-- a row lies in words from the first place on, and nothing behind it
abbrev pub Lies : List ℕ → List Bool → Type 0
Lies words row = (p : ℕ) → bit_in 64 words p ≡ bit_at row p

-- a row of at most 273 places stands on the circle, and ten words go round it twice
abbrev pub Round : List ℕ → List Bool → Type 0
Round words row = (length words ≡ 10) × ((p : ℕ) → p < 546 → bit_in 64 words p ≡ bit_at row (p % 273))

-- the row of the places that the vote turns, by the parity sums
unfoldable pub turned : List Bool → List Bool
turned sums = row_from (λ p. leb majority (odd_sums sums p)) 0 272

-- 64 counts, place by place, each as five bits, one in a plane
unfoldable pub counted : Planes → ℕ → ℕ
counted c k = bit (bit_of c.ones k) + 2 * bit (bit_of c.twos k) + 4 * bit (bit_of c.fours k) + 8 * bit (bit_of c.eights k) + 16 * bit (bit_of c.sixteens k)

-- what the vote turns, where that is few places
abbrev pub Voted : List Bool → Option Turned → Type 0
Voted sums (Some t) = FiveWords t.changed × (row_of_words t.changed ≡ turned sums) × (t.count ≡ ones (turned sums)) × (ones (turned sums) ≤ most_corrected)
Voted sums None = most_corrected < ones (turned sums)
