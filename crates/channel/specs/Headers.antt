-- What the private functions of src/layer3.rt and src/layer4.rt owe their callers: parts of what `step_of` says. No public promise cites
-- this file. Assumes nothing.
use Rattle.std.specs.Prelude.{ℕ, ◌≡◌, List, eqb, length, Result, Ok, Err}
use Rattle.answers.specs.Numbers as numbers
use Rattle.answers.specs.Rules.{unless}
use Rattle.answers.specs.declared.Refusal.{Refusal}
use Rattle.header.specs.Header.{total, holds}
use Rattle.channel.specs.declared.Header.{Header}
use Rattle.channel.specs.declared.layer3.BlockHeader.{BlockHeader}
use Rattle.channel.specs.Answers.{Outcome, message, refused}
use Rattle.channel.specs.Layer3.{layer3, header_of, si_lch_of, lf_of, sc_of}

-- the answer to a block's header alone: length (1), channel (5), header check (4)
abbrev pub header_answer : List ℕ → numbers.Paper
header_answer information =
    unless (eqb (length information) 22) (numbers.refused 1)
    (unless (eqb (si_lch_of (header_of information)) 10) (numbers.refused 5)
    (unless (holds (total layer3) (header_of information)) (numbers.refused 4) numbers.accepted))

-- what is read of a block: its LF and its SC, or that answer
abbrev pub ReadsHeader : List ℕ → Result BlockHeader Refusal → Type 0
ReadsHeader information (Ok b) = (numbers.accepted ≡ header_answer information) × (b.lf ≡ lf_of (header_of information)) × (b.sc ≡ sc_of (header_of information))
ReadsHeader information (Err refusal) = numbers.refused (numbers.number_of refusal) ≡ header_answer information

-- what the gathered bytes are: a message, or why they are none
abbrev pub message_or : Result Header Refusal → Outcome
message_or (Ok header) = message header
message_or (Err refusal) = refused (numbers.number_of refusal)
