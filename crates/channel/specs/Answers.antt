-- Document 01, "Answer numbers": what each answer of the channel is on the paper, and the state that it leaves. Assumes nothing.
use Rattle.std.specs.Prelude.{ℕ, Result, Ok, Err}
use Rattle.answers.specs.Numbers.{number_of}
use Rattle.answers.specs.declared.Refusal.{Refusal}
use Rattle.channel.specs.declared.Header.{Header}
use Rattle.channel.specs.declared.Channel.{Channel}
use Rattle.channel.specs.declared.Stepped.{Stepped}
use Rattle.channel.specs.declared.Step.{Step}
use Rattle.channel.specs.declared.Step.TheVariants.{Taken, Message}

pub data Outcome : Type 0 where
  taken : Outcome
  message : Header → Outcome
  refused : ℕ → Outcome

abbrev pub outcome : Result Step Refusal → Outcome
outcome (Ok Taken) = taken
outcome (Ok (Message header)) = message header
outcome (Err refusal) = refused (number_of refusal)

-- an answer, and the channel that it leaves
pub record ChannelAfter : Type 0 where
  pub answer : Outcome
  pub channel : Channel

abbrev pub channel_after : Outcome → Channel → ChannelAfter
channel_after answer channel = record { answer = answer; channel = channel }

abbrev pub told_step : Stepped → ChannelAfter
told_step r = channel_after (outcome r.answer) r.channel
