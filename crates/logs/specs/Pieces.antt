-- Document 02, ticket 4, "Logs from a cable": the log cut anywhere, cuts inside a number and pieces of no bytes too, with an explicit end. What is
-- claimed of any outcomes that the contracts of `feed` and `end` allow. Assumes nothing.
use Rattle.std.specs.Prelude.{ℕ, zero, suc, ◌+◌, ◌≡◌, true, cond, length, replicate, leb, eqb}
use mathlib.Core.List.{List, [], ◌∷◌, ◌++◌, map, flatten}
use Rattle.std.proofs.Math.Pow.{are_bytes}
use Rattle.answers.specs.Numbers.{accepted}
use Rattle.answers.specs.Rules.{Run, state_left}
use Rattle.text.specs.Ascii.{line_feed}
use Rattle.logs.specs.declared.Reader.{Reader}
use Rattle.logs.specs.declared.Fed.{Fed}
use Rattle.logs.specs.Reader.{ToldLog, ToldFed, told_fed, longest_line, fresh_reader, whole_of, read_of, fed_of, end_of}
use Rattle.logs.specs.Beginning.{Beginning, text_of, Parted}

-- a call: a piece is handed in, or the end
pub data Call : Type 0 where
  feed : (piece : List ℕ) → Call
  end : Call

abbrev pub call_of : Reader → Call → ToldFed
call_of s (feed piece) = fed_of s piece
call_of s end = end_of s

-- what calls give, one after the other, each time with the reader that the one before left
abbrev pub Calls : Reader → List Call → List Fed → Type 0
Calls = Run (λ s call r. told_fed r ≡ call_of s call) (λ r. r.reader)

-- ---- "The counts, the refusal and its line number are those for the uncut log."

-- a log in pieces: each is handed in, and then the end
abbrev pub in_pieces : List (List ℕ) → List Call
in_pieces [] = end ∷ []
in_pieces (piece ∷ pieces) = feed piece ∷ in_pieces pieces

-- "A line is judged at its line feed, or at a 64th byte that is none": the number of the byte at which a line is judged, 1 for the first of these, where
-- `room` of them may come before its 64th. Where none of them judges it, one more than there are: "The missing last line feed is found only at the end."
unfoldable pub judging_byte : ℕ → List ℕ → ℕ
judging_byte zero bytes = 1
judging_byte (suc room) [] = 1
judging_byte (suc room) (b ∷ bytes) = cond (eqb b line_feed) 1 (suc (judging_byte room bytes))

-- and the number of that byte in a log: behind a good beginning, the one that judges the first line of the rest
abbrev pub judged_at : Beginning → List ℕ → ℕ
judged_at beginning rest = length (text_of beginning) + judging_byte longest_line rest

-- What a piece tells when, with it, these bytes of the log have come: from the judging byte on what `read` tells of the whole log; before it accepted,
-- line 0, and the counts that `read` tells of the bytes so far.
abbrev pub piece_tells : ℕ → List ℕ → List ℕ → ToldLog
piece_tells judging log so_far = cond (leb judging (length so_far)) (read_of log) (record { answer = accepted; line = 0; counts = (read_of so_far).counts })

-- each piece, behind the bytes before it; and the end what `read` tells of the whole log
abbrev pub all_tell : ℕ → List ℕ → List ℕ → List (List ℕ) → List ToldLog
all_tell judging log before [] = read_of log ∷ []
all_tell judging log before (piece ∷ pieces) = piece_tells judging log (before ++ piece) ∷ all_tell judging log (before ++ piece) pieces

-- A LOG IN PIECES: its longest good beginning and its rest, and what each call tells, by the byte at which the line behind that beginning is judged.
pub record ToldInPieces (pieces : List (List ℕ)) (outcomes : List Fed) : Type 0 where
  pub parted : Parted (flatten pieces)
  pub told : map (λ r. whole_of (told_fed r)) outcomes ≡ all_tell (judged_at parted.beginning parted.rest) (flatten pieces) [] pieces

-- ---- "After a refusal every later piece, and the end, gets the same refusal." "After an accepted end any call, and at any time a state that no pieces
-- lead to, gets 11 and changes nothing."

-- every call tells this, whichever calls come and in whatever order
abbrev pub Always : Reader → ToldFed → Type 0
Always s told = (calls : List Call) (outcomes : List Fed) → Calls s calls outcomes → map told_fed outcomes ≡ replicate (length calls) told

-- Pieces lead to this reader, from the one before the first byte on. The end is no piece, so to a reader that has ended none lead.
pub record Reached (s : Reader) : Type 0 where
  pub pieces : List (List ℕ)
  pub small : are_bytes (flatten pieces) ≡ true
  pub outcomes : List Fed
  pub given : Calls fresh_reader (map feed pieces) outcomes
  pub left : state_left (λ r. r.reader) fresh_reader outcomes ≡ s

-- what the type of a reader's field `held` says of it
pub record SixtyThreeBytes (held : List ℕ) : Type 0 where
  pub count : length held ≡ longest_line
  pub small : are_bytes held ≡ true
