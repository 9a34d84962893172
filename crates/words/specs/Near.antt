-- Document 01, "The block": the code word near a row, over all code words, as five words (document 02, tickets 1 and 3). Assumes nothing.
use Rattle.std.specs.Prelude.{◌≡◌, Bool, List, ℕ, ◌≤◌, Option, Some, None}
use Rattle.code.specs.Code.{CodeWord, difference, ones, distance, most_corrected}
use Rattle.words.specs.declared.Found.{Found}
use Rattle.words.specs.Words.{FiveWords, row_of_words}

-- a code word differs from a row in at most eight places; the row of changed places is exactly the difference between the two, and the
-- count is the number of ones in it
pub record Near (row word : List Bool) (count : ℕ) (changed : List ℕ) : Type 0 where
  pub code : CodeWord word
  pub near : distance row word ≤ most_corrected
  pub words : FiveWords changed
  pub places : row_of_words changed ≡ difference row word
  pub counts : count ≡ ones (row_of_words changed)

-- no code word differs in at most eight places
abbrev pub NoneNear : List Bool → Type 0
NoneNear row = (word : List Bool) → CodeWord word → distance row word ≤ most_corrected → ⊥

-- what is found for a row: the code word that is near, or that none is
abbrev pub Searched : List Bool → Option Found → Type 0
Searched row (Some found) = FiveWords found.word × Near row (row_of_words found.word) found.count found.changed
Searched row None = NoneNear row
