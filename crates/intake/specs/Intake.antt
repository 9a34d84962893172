-- A log that comes on standard input: no contract can name the bytes that the operating system hands over, so these say that there
-- are some. Assumes nothing.
use Rattle.std.specs.Prelude.{ℕ, ◌≡◌, true, List, Result}
use Rattle.std.proofs.Math.Pow.{are_bytes}
use Rattle.answers.specs.declared.Refusal.{Refusal}
use Rattle.logs.specs.Reader.{ToldLog, read_of}
use Rattle.summary.specs.Report.{ToldText, told_text}

-- what is told of the bytes, read as a log
pub record Came (t : ToldLog) : Type 0 where
  pub bytes : List ℕ
  pub small : are_bytes bytes ≡ true
  pub read : read_of bytes ≡ t

-- the room as an answer leaves it, whatever it held before
pub record Answered (answer : List ℕ → ToldText) (room : List ℕ) : Type 0 where
  pub before : List ℕ
  pub result : Result ℕ Refusal
  pub told : told_text result room ≡ answer before
