-- Document 01, "The log and its report": channel numbers and kilohertz (000, table 9). Assumes nothing.
use Rattle.std.specs.Prelude.{ℕ, ◌+◌, ◌-◌, ◌*◌, ◌/◌, ◌%◌, Bool, ◌&&◌, leb, eqb, Result, Ok, Err}
use Rattle.answers.specs.Numbers.{Paper, accepted, refused, number_of}
use Rattle.answers.specs.declared.Refusal.{Refusal}
use Rattle.answers.specs.Rules.{unless}
use Rattle.band.specs.declared.Channel.{Channel}
use Rattle.band.specs.declared.Kilohertz.{Kilohertz}

-- What is told of a channel or of a frequency: the paper's answer, and a number, 0 where it was refused.
pub record ToldNumber : Type 0 where
  pub answer : Paper
  pub number : ℕ

abbrev pub told_number : {A : Type 0} → (A → ℕ) → Result A Refusal → ToldNumber
told_number number (Ok made) = record { answer = accepted; number = number made }
told_number number (Err refusal) = record { answer = refused (number_of refusal); number = 0 }

abbrev pub told_channel : Result Channel Refusal → ToldNumber
told_channel = told_number (λ c. c.0)

abbrev pub told_kilohertz : Result Kilohertz Refusal → ToldNumber
told_kilohertz = told_number (λ k. k.0)

-- 11 and 0 where a test fails, else a number
abbrev pub number_if : Bool → ℕ → ToldNumber
number_if test n = unless test (record { answer = refused 11; number = 0 }) (record { answer = accepted; number = n })

abbrev pub last_channel : ℕ
last_channel = 204

-- 1 to 204; 0 and 205 to 255 are reserved
abbrev pub is_channel : ℕ → Bool
is_channel n = leb 1 n && leb n last_channel

abbrev pub numbered_of : ℕ → ToldNumber
numbered_of n = number_if (is_channel n) n

-- number n is 87,500 + 100 n kHz
abbrev pub kilohertz_of : Channel → ToldNumber
kilohertz_of c = number_if (is_channel c.0) (87500 + 100 * c.0)

-- a frequency of the channels 1 to 204
abbrev pub is_frequency : ℕ → Bool
is_frequency f = leb 87600 f && leb f 107900 && eqb (f % 100) 0

abbrev pub channel_of : Kilohertz → ToldNumber
channel_of k = number_if (is_frequency k.0) ((k.0 - 87500) / 100)
