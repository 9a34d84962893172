-- Document 01, "The log and its report", and ticket 4 of document 02: a log is read byte by byte, in one piece or in several, and ended. Assumes
-- nothing.
use Rattle.std.specs.Prelude.{ℕ, ◌+◌, Bool, true, false, cond, not, ◌&&◌, List, [], ◌∷◌, take, drop, set, replicate, ltb, leb, eqb, Option, Some, None}
use Rattle.text.specs.Ascii.{line_feed}
use Rattle.text.specs.Fields.{same_as}
use Rattle.answers.specs.Numbers.{Paper, accepted, refused, paper}
use Rattle.answers.specs.Rules.{unless}
use Rattle.band.specs.Band.{is_channel}
use Rattle.logs.specs.declared.Counts.{Counts}
use Rattle.logs.specs.declared.Phase.{Phase}
use Rattle.logs.specs.declared.Phase.TheVariants.{Open, Refused, Ended}
use Rattle.logs.specs.declared.Reader.{Reader}
use Rattle.logs.specs.declared.Fed.{Fed}
use Rattle.logs.specs.declared.LogRead.{LogRead}
use Rattle.logs.specs.Log.{tuned, is_sound, judged}

-- What is told of a log: the paper's answer, the number of the line that was refused or 0, and the counts before that line or of all.
pub record ToldLog : Type 0 where
  pub answer : Paper
  pub line : ℕ
  pub counts : Counts

abbrev pub told_log : LogRead → ToldLog
told_log r = record { answer = paper r.answer; line = r.line; counts = r.counts }

-- What is told of a piece, or of the end: the same, and the reader that it leaves.
pub record ToldFed : Type 0 where
  pub answer : Paper
  pub line : ℕ
  pub reader : Reader

abbrev pub told_fed : Fed → ToldFed
told_fed r = record { answer = paper r.answer; line = r.line; reader = r.reader }

-- ---- a byte more

-- a line without its line feed; with it a line has at most 64 bytes
abbrev pub longest_line : ℕ
longest_line = 63

-- between two lines: nothing is held
abbrev pub between : Phase → Counts → Reader
between phase counts = record { phase = phase; counts = counts; held = replicate longest_line 0; length = 0 }

abbrev pub fresh_reader : Reader
fresh_reader = between Open (tuned 0)

-- after a line, with the counts before it and those with it; a bad line leaves the counts as before it
abbrev pub after_line : Counts → Option Counts → Reader
after_line counts (Some more) = between Open more
after_line counts None = between Refused counts

-- a byte is held, where the line has room for it
abbrev pub holding : Reader → ℕ → Reader
holding s b =
    cond (ltb s.length longest_line)
    (record { phase = Open; counts = s.counts; held = set s.held s.length b; length = s.length + 1 })
    (between Refused s.counts)

-- a line is judged at its line feed, or at a 64th byte that is none
unfoldable pub open_step : Reader → ℕ → Reader
open_step s b = cond (eqb b line_feed) (after_line s.counts (judged s.counts (take s.length s.held))) (holding s b)

abbrev pub is_open : Phase → Bool
is_open Open = true
is_open Refused = false
is_open Ended = false

-- after a refused line nothing counts
unfoldable pub after_byte : Reader → ℕ → Reader
after_byte s b = cond (is_open s.phase) (open_step s b) s

unfoldable pub run : Reader → List ℕ → Reader
run s [] = s
run s (b ∷ bs) = run (after_byte s b) bs

-- ---- answers

-- the number of the line that is being read, or was refused
abbrev pub line_number : Counts → ℕ
line_number counts = cond (eqb counts.channel 0) 1 (counts.slots + 2)

abbrev pub bad_line : Reader → ToldFed
bad_line s = record { answer = refused 12; line = line_number s.counts; reader = s }

abbrev pub fine : Reader → ToldFed
fine s = record { answer = accepted; line = 0; reader = s }

-- a reader that takes a piece has not ended: where it is not open, a line was refused
abbrev pub after_piece : Reader → ToldFed
after_piece s = unless (is_open s.phase) (bad_line s) (fine s)

-- no line was refused, the first is there, and the last has its line feed
abbrev pub is_whole : Reader → Bool
is_whole s = is_open s.phase && not (eqb s.counts.channel 0) && eqb s.length 0

abbrev pub after_end : Reader → ToldFed
after_end s = unless (is_whole s) (bad_line (between Refused s.counts)) (fine (between Ended s.counts))

-- the whole log
abbrev pub whole_of : ToldFed → ToldLog
whole_of t = record { answer = t.answer; line = t.line; counts = t.reader.counts }

unfoldable pub read_of : List ℕ → ToldLog
read_of log = whole_of (after_end (run fresh_reader log))

-- ---- a log in pieces

unfoldable pub is_plain : List ℕ → Bool
is_plain [] = true
is_plain (b ∷ bs) = not (eqb b line_feed) && is_plain bs

-- no line feed among the bytes held, and zeros after them
unfoldable pub is_held : List ℕ → ℕ → Bool
is_held held n = is_plain (take n held) && same_as (drop n held) (drop n (replicate longest_line 0))

abbrev pub is_holding : Phase → ℕ → Bool
is_holding Open length = leb length longest_line
is_holding Refused length = eqb length 0
is_holding Ended length = false

-- the counts before some line: all 0 before the first, and then those of some log
unfoldable pub is_before : Counts → Bool
is_before counts = is_sound counts && cond (eqb counts.channel 0) (eqb counts.slots 0) (is_channel counts.channel)

-- The rule of a reader that takes a piece or the end: it has not ended; it holds up to 63 bytes of a line, none after a refusal.
unfoldable pub is_reader : Reader → Bool
is_reader s =
    is_holding s.phase s.length
    && is_held s.held s.length
    && is_before s.counts

-- 11 for a reader outside its rule, which stays as it is
abbrev pub no_reader : Reader → ToldFed
no_reader s = record { answer = refused 11; line = 0; reader = s }

unfoldable pub fed_of : Reader → List ℕ → ToldFed
fed_of s piece = unless (is_reader s) (no_reader s) (after_piece (run s piece))

unfoldable pub end_of : Reader → ToldFed
end_of s = unless (is_reader s) (no_reader s) (after_end s)
