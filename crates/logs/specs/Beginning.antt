-- Document 01, "The log and its report": every byte string is a longest good beginning and a rest, and these say what `read` tells of it.
-- Assumes nothing.
use Rattle.std.specs.Prelude.{ℕ, ◌+◌, ◌<◌, ◌≤◌, ◌≡◌, Bool, true, ◌&&◌, List, [], ◌∷◌, ◌++◌, length, leb}
use Rattle.answers.specs.Numbers.{accepted, refused}
use Rattle.band.specs.Band.{is_channel}
use Rattle.logs.specs.declared.Counts.{Counts}
use Rattle.text.specs.Ascii.{line_feed}
use Rattle.logs.specs.Log.{greatest_slot, first_line, slot_line, is_outcome, log_text, all_outcomes, counts_from, tuned}
use Rattle.logs.specs.Reader.{ToldLog, read_of}

-- The lines that a log begins with: none, or the first line and one line a slot.
pub data Beginning : Type 0 where
  nothing : Beginning
  lines : (channel : ℕ) (outcomes : List ℕ) → Beginning

-- each line with its line feed
abbrev pub text_of : Beginning → List ℕ
text_of nothing = []
text_of (lines channel outcomes) = log_text channel outcomes

-- good ones: a channel number, then up to 999,999 slots with an outcome each
abbrev pub is_good : Beginning → Bool
is_good nothing = true
is_good (lines channel outcomes) = is_channel channel && all_outcomes outcomes && leb (length outcomes) greatest_slot

abbrev pub counts_of : Beginning → Counts
counts_of nothing = tuned 0
counts_of (lines channel outcomes) = counts_from (tuned channel) outcomes

-- the number of the line that comes next
abbrev pub next_line : Beginning → ℕ
next_line nothing = 1
next_line (lines channel outcomes) = length outcomes + 2

-- the line of the slot after so many, up to slot 999,999, with some outcome
abbrev pub GoodSlot : ℕ → List ℕ → Type 0
GoodSlot slots line = (outcome : ℕ) × (is_outcome outcome ≡ true) × (slots < greatest_slot) × (line ≡ slot_line (slots + 1) outcome)

-- a line that may come next: the first line of some channel, and then the next slot's. None is near the 64 bytes that a line may have.
abbrev pub GoodLine : Beginning → List ℕ → Type 0
GoodLine nothing line = (channel : ℕ) × (is_channel channel ≡ true) × (line ≡ first_line channel)
GoodLine (lines channel outcomes) line = GoodSlot (length outcomes) line

-- the rest does not start with such a line and its line feed
abbrev pub Stops : Beginning → List ℕ → Type 0
Stops beginning rest = (line more : List ℕ) → rest ≡ line ++ (line_feed ∷ more) → GoodLine beginning line → ⊥

-- 12 with the number of the next line, and the counts before it
abbrev pub refused_after : Beginning → ToldLog
refused_after beginning = record { answer = refused 12; line = next_line beginning; counts = counts_of beginning }

-- What is told of a beginning and a rest: accepted where there is a first line and nothing is left.
abbrev pub told_of : Beginning → List ℕ → ToldLog
told_of nothing rest = refused_after nothing
told_of (lines channel outcomes) [] = record { answer = accepted; line = 0; counts = counts_of (lines channel outcomes) }
told_of (lines channel outcomes) (b ∷ rest) = refused_after (lines channel outcomes)

-- EVERY BYTE STRING: its longest good beginning, the rest, and what `read` tells of it.
pub record Parted (log : List ℕ) : Type 0 where
  pub beginning : Beginning
  pub rest : List ℕ
  pub text : log ≡ text_of beginning ++ rest
  pub good : is_good beginning ≡ true
  pub stops : Stops beginning rest
  pub longest : (other : Beginning) (more : List ℕ) → is_good other ≡ true → log ≡ text_of other ++ more → length (text_of other) ≤ length (text_of beginning)
  pub told : read_of log ≡ told_of beginning rest

-- AN ACCEPTED LOG: the text of a channel and outcomes, with their counts.
pub record AcceptedLog (log : List ℕ) : Type 0 where
  pub channel : ℕ
  pub outcomes : List ℕ
  pub good : is_good (lines channel outcomes) ≡ true
  pub text : log ≡ log_text channel outcomes
  pub counts : (read_of log).counts ≡ counts_from (tuned channel) outcomes
