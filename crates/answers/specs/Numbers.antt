-- Document 01, "Answer numbers": the number of each refusal, in the table's order. Assumes nothing.
use Rattle.std.specs.Prelude.{ℕ, Result, Ok, Err}
use Rattle.answers.specs.declared.Refusal.{Refusal}
use Rattle.answers.specs.declared.Refusal.TheVariants.{WrongLength, NoCodeWord, CheckBits, HeaderCheck, OtherChannel, HeaderForm, CountOrPadding, OutOfStep, TooMany, TooShort, OutsideRule, BadLine, NotThisGroup, TooLong}

abbrev pub number_of : Refusal → ℕ
-- a fixed length is wrong
number_of WrongLength = 1
-- no code word within eight places
number_of NoCodeWord = 2
-- check bits wrong
number_of CheckBits = 3
-- a header check is wrong
number_of HeaderCheck = 4
-- SI/LCh is not A hex
number_of OtherChannel = 5
-- CAF, RFA or EXT form
number_of HeaderForm = 6
-- block count or padding
number_of CountOrPadding = 7
-- out of step
number_of OutOfStep = 8
-- fourteenth block, sixteenth message
number_of TooMany = 9
-- output or buffer too short
number_of TooShort = 10
-- number, state or data size outside its rule
number_of OutsideRule = 11
-- bad log line
number_of BadLine = 12
-- not this group
number_of NotThisGroup = 13
-- header and data over 260 bytes
number_of TooLong = 14

-- An answer as the paper has it: accepted, or refused with a number of the table.
pub data Paper : Type 0 where
  accepted : Paper
  refused : ℕ → Paper

abbrev pub paper : Result Unit Refusal → Paper
paper (Ok done) = accepted
paper (Err refusal) = refused (number_of refusal)
