-- Document 02, ticket 5: a frame's bits, the two stages, and what the frame corrector answers, over the code of document 01. Assumes nothing.
use Rattle.std.specs.Prelude.{◌≡◌, Bool, List, ◌⊎◌, ℕ, suc, ◌+◌, ◌*◌, ◌≤◌, ◌<◌, Result, Ok, Err, length, take, drop}
use Rattle.answers.specs.Numbers.{Paper, accepted, refused, number_of}
use Rattle.answers.specs.declared.Refusal.{Refusal}
use Rattle.gf2.specs.Poly.{row_from}
use Rattle.code.specs.Code.{CodeWord, distance, most_corrected}
use Rattle.words.specs.Bytes.{bit_in}
use Rattle.words.specs.Near.{NoneNear}
use Rattle.frame.specs.declared.CorrectedFrame.{CorrectedFrame}

-- a frame, by its bits: of each row the bit at each position
abbrev pub Frame : Type 0
Frame = (row position : ℕ) → Bool

-- Rows stand in code order, 34 bytes each; the positions of a row are those of a block.
abbrev pub frame_of : List ℕ → Frame
frame_of bytes n p = bit_in 8 (take 34 (drop (34 * n) bytes)) p

-- the frame turned round: row i is position i of each column
abbrev pub turned_round : Frame → Frame
turned_round frame n p = frame p n

-- a row of a frame; of the frame turned round, a column
unfoldable pub row_in : Frame → ℕ → List Bool
row_in frame n = row_from (frame n) 0 272

-- What a row becomes, and 1 where it is refused, else 0: the code word that differs from it in at most eight places; where there is none it is kept.
pub data Becomes (row result : List Bool) : ℕ → Type 0 where
  corrected : CodeWord result → distance row result ≤ most_corrected → Becomes row result 0
  kept : NoneNear row → result ≡ row → Becomes row result 1

-- a stage: each of the first so many rows becomes that, and so many of them are refused
pub data Stage (received result : Frame) : (rows refusals : ℕ) → Type 0 where
  start : Stage received result 0 0
  next : {n refusals more : ℕ} → Stage received result n refusals → Becomes (row_in received n) (row_in result n) more → Stage received result (suc n) (refusals + more)

-- What the frame corrector answers, as the paper has it; refused, both numbers are 0.
pub record ToldFrame : Type 0 where
  pub answer : Paper
  pub refused_rows : ℕ
  pub refused_columns : ℕ

abbrev pub told_frame : Result CorrectedFrame Refusal → ToldFrame
told_frame (Ok frame) = record { answer = accepted; refused_rows = frame.refused_rows; refused_columns = frame.refused_columns }
told_frame (Err refusal) = record { answer = refused (number_of refusal); refused_rows = 0; refused_columns = 0 }

-- 1: another buffer length, before anything else; buffer unchanged, both numbers 0
pub record AnotherLength (received after : List ℕ) (t : ToldFrame) : Type 0 where
  pub wrong : length received ≡ 9248 → ⊥
  pub answers : t.answer ≡ refused 1
  pub no_rows : t.refused_rows ≡ 0
  pub no_columns : t.refused_columns ≡ 0
  pub same : after ≡ received

-- accepted: each row, then each column of what the rows have become; so a refused column keeps its bits as they were after the row stage
pub record TwoStages (received after : List ℕ) (t : ToldFrame) : Type 0 where
  pub sized : length received ≡ 9248
  pub after_rows : Frame
  pub rows : Stage (frame_of received) after_rows 272 t.refused_rows
  pub columns : Stage (turned_round after_rows) (turned_round (frame_of after)) 272 t.refused_columns
  pub answers : t.answer ≡ accepted
  pub long : length after ≡ 9248

abbrev pub CorrectsFrame : (received after : List ℕ) (t : ToldFrame) → Type 0
CorrectsFrame received after t = AnotherLength received after t ⊎ TwoStages received after t

-- Every row and every column is meant to be a code word.
pub record CodeFrame (bytes : List ℕ) : Type 0 where
  pub sized : length bytes ≡ 9248
  pub rows : (n : ℕ) → n < 272 → CodeWord (row_in (frame_of bytes) n)
  pub columns : (n : ℕ) → n < 272 → CodeWord (row_in (turned_round (frame_of bytes)) n)
