-- Document 01, "The block": the check bits, and what the block reader and the block writer answer. Assumes nothing.
use Rattle.std.specs.Prelude.{◌≡◌, Bool, List, [], ◌∷◌, ◌⊎◌, ℕ, Result, length, take, drop}
use Rattle.answers.specs.declared.Refusal.{Refusal}
use Rattle.answers.specs.Numbers.{accepted, refused, paper}
use Rattle.gf2.specs.Poly.{lower, check_of, systematic}
use Rattle.code.specs.Code.{generator}
use Rattle.words.specs.Bytes.{row_of}
use Rattle.words.specs.Near.{Near}
use Rattle.block.specs.Told.{ToldCorrected}
use Rattle.block.specs.Corrector.{Sized, WrongLength, NoCodeWord}

-- x^14 + x^11 + x^2 + 1; the leading power has no effect here either
unfoldable pub check_divisor : List Bool
check_divisor = lower 14 (14 ∷ 11 ∷ 2 ∷ 0 ∷ [])

-- The 14 check bits are the remainder of the information polynomial times x^14, highest power sent first.
abbrev pub CheckRight : List Bool → Type 0
CheckRight word = drop 176 (take 190 word) ≡ check_of check_divisor (take 176 word)

-- 176 information, 14 check, 82 parity, in sending order
abbrev pub block_row : List Bool → List Bool
block_row information = systematic generator (systematic check_divisor information)

-- 3: the code word's check bits are wrong; the corrected count and the changed places are given, and the output as before
pub record WrongCheck (received before after : List ℕ) (t : ToldCorrected) : Type 0 where
  pub sized : Sized 34 22 received before
  pub word : List Bool
  pub found : Near (row_of received) word t.count t.changed
  pub wrong : CheckRight word → ⊥
  pub answers : t.answer ≡ refused 3
  pub same : after ≡ before

-- accepted: the 22 information bytes, the number of corrected bits and the changed places
pub record Information (received before after : List ℕ) (t : ToldCorrected) : Type 0 where
  pub sized : Sized 34 22 received before
  pub word : List Bool
  pub found : Near (row_of received) word t.count t.changed
  pub right : CheckRight word
  pub answers : t.answer ≡ accepted
  pub long : length after ≡ 22
  pub given : row_of after ≡ take 176 word

abbrev pub Reads : (received before after : List ℕ) (t : ToldCorrected) → Type 0
Reads received before after t =
    WrongLength 22 received before after t ⊎ (NoCodeWord 22 received before after t ⊎ (WrongCheck received before after t ⊎ Information received before after t))

-- 1: a length is wrong; the output as before
pub record NotWritten (information before after : List ℕ) (answer : Result Unit Refusal) : Type 0 where
  pub wrong : Sized 22 34 information before → ⊥
  pub answers : paper answer ≡ refused 1
  pub same : after ≡ before

-- accepted: the block of the information
pub record Block (information before after : List ℕ) (answer : Result Unit Refusal) : Type 0 where
  pub sized : Sized 22 34 information before
  pub answers : paper answer ≡ accepted
  pub long : length after ≡ 34
  pub written : row_of after ≡ block_row (row_of information)

abbrev pub Writes : (information before after : List ℕ) (answer : Result Unit Refusal) → Type 0
Writes information before after answer = NotWritten information before after answer ⊎ Block information before after answer
