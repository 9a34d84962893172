-- Document 01, "The block": what the corrector answers, over all code words. `WrongLength`, `NoCodeWord` and `Word` are its outcomes: when each is
-- given, the answer as the paper has it, the count, the row of changed places (document 02, ticket 1), and every byte of the output. Assumes nothing.
use Rattle.std.specs.Prelude.{◌≡◌, Bool, List, ◌⊎◌, ℕ, length}
use Rattle.answers.specs.Numbers.{accepted, refused}
use Rattle.words.specs.Bytes.{row_of}
use Rattle.words.specs.Words.{zero_words}
use Rattle.words.specs.Near.{Near, NoneNear}
use Rattle.block.specs.Told.{ToldCorrected}

-- It wants 34 bytes in and 34 out, the reader 34 and 22, the block writer 22 and 34, else 1.
pub record Sized (bytes room : ℕ) (given before : List ℕ) : Type 0 where
  pub input : length given ≡ bytes
  pub output : length before ≡ room

-- 1: a length is wrong; the count is 0, the row zero and the output as before
pub record WrongLength (room : ℕ) (received before after : List ℕ) (t : ToldCorrected) : Type 0 where
  pub wrong : Sized 34 room received before → ⊥
  pub answers : t.answer ≡ refused 1
  pub counts : t.count ≡ 0
  pub places : t.changed ≡ zero_words
  pub same : after ≡ before

-- 2: no code word differs in at most eight places; the count is 0, the row zero and the output as before
pub record NoCodeWord (room : ℕ) (received before after : List ℕ) (t : ToldCorrected) : Type 0 where
  pub sized : Sized 34 room received before
  pub none : NoneNear (row_of received)
  pub answers : t.answer ≡ refused 2
  pub counts : t.count ≡ 0
  pub places : t.changed ≡ zero_words
  pub same : after ≡ before

-- accepted: that code word is the output
pub record Word (received before after : List ℕ) (t : ToldCorrected) : Type 0 where
  pub sized : Sized 34 34 received before
  pub word : List Bool
  pub found : Near (row_of received) word t.count t.changed
  pub answers : t.answer ≡ accepted
  pub long : length after ≡ 34
  pub written : row_of after ≡ word

abbrev pub Corrects : (received before after : List ℕ) (t : ToldCorrected) → Type 0
Corrects received before after t = WrongLength 34 received before after t ⊎ (NoCodeWord 34 received before after t ⊎ Word received before after t)
