-- Document 01, "Answer numbers": what each answer of the group state is on the paper, and the state and the buffer that it leaves. Assumes nothing.
use Rattle.std.specs.Prelude.{ℕ, List, Result, Ok, Err}
use Rattle.answers.specs.Numbers.{number_of, Paper}
use Rattle.answers.specs.declared.Refusal.{Refusal}
use Rattle.group.specs.declared.Group.{Group}
use Rattle.group.specs.declared.Stepped.{Stepped}
use Rattle.group.specs.declared.Step.{Step}
use Rattle.group.specs.declared.Step.TheVariants.{Taken, Repeat, Whole}

-- "taken"; "repeat"; "group" with its length; or a number of the table
pub data Outcome : Type 0 where
  taken : Outcome
  repeat : Outcome
  whole : ℕ → Outcome
  refused : ℕ → Outcome

abbrev pub outcome : Result Step Refusal → Outcome
outcome (Ok Taken) = taken
outcome (Ok Repeat) = repeat
outcome (Ok (Whole length)) = whole length
outcome (Err refusal) = refused (number_of refusal)

-- an answer, and the state and the buffer that it leaves
pub record GroupAfter : Type 0 where
  pub answer : Outcome
  pub group : Group
  pub buffer : List ℕ

abbrev pub group_after : Outcome → Group → List ℕ → GroupAfter
group_after answer group buffer = record { answer = answer; group = group; buffer = buffer }

abbrev pub told_join : Stepped → List ℕ → GroupAfter
told_join r buffer = group_after (outcome r.answer) r.group buffer

-- the answer to being asked for a state, and the state
pub record Made : Type 0 where
  pub answer : Paper
  pub group : Group

abbrev pub made : Paper → Group → Made
made answer group = record { answer = answer; group = group }
