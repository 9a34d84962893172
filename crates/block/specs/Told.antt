-- What the corrector and the block reader answer, as the paper has it: the answer, the count, and the row of changed places (document 02, ticket 1).
-- Assumes nothing.
use Rattle.std.specs.Prelude.{List, ℕ, Result, Ok, Err}
use Rattle.answers.specs.declared.Refusal.{Refusal}
use Rattle.answers.specs.declared.Refusal.TheVariants as refusal
use Rattle.answers.specs.Numbers.{Paper, accepted, refused, number_of}
use Rattle.words.specs.Words.{zero_words}
use Rattle.block.specs.declared.Corrected.{Corrected}
use Rattle.block.specs.declared.Unread.{Unread}
use Rattle.block.specs.declared.Unread.TheVariants.{WrongLength, NoCodeWord, CheckBits}

pub record ToldCorrected : Type 0 where
  pub answer : Paper
  pub count : ℕ
  pub changed : List ℕ

-- the refusal that the block reader's error is
abbrev pub refusal_of : Unread → Refusal
refusal_of WrongLength = refusal.WrongLength
refusal_of NoCodeWord = refusal.NoCodeWord
refusal_of (CheckBits corrected) = refusal.CheckBits

-- a code word was found: its count and its places, whatever the answer
abbrev pub told_places : Paper → Corrected → ToldCorrected
told_places answer corrected = record { answer = answer; count = corrected.count; changed = corrected.changed }

-- none was found: the count is 0 and the row zero
abbrev pub told_none : Refusal → ToldCorrected
told_none why = record { answer = refused (number_of why); count = 0; changed = zero_words }

abbrev pub told_corrected : Result Corrected Refusal → ToldCorrected
told_corrected (Ok corrected) = told_places accepted corrected
told_corrected (Err why) = told_none why

abbrev pub told_read : Result Corrected Unread → ToldCorrected
told_read (Ok corrected) = told_places accepted corrected
told_read (Err WrongLength) = told_none refusal.WrongLength
told_read (Err NoCodeWord) = told_none refusal.NoCodeWord
told_read (Err (CheckBits corrected)) = told_places (refused (number_of refusal.CheckBits)) corrected
