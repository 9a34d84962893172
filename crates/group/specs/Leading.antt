-- Document 01, "where the caller gives the buffer back unchanged, its leading bytes are the joined data". What this claim says of any outcomes that
-- the contract of `Group::join` allows, whatever messages come: those of other services stand between those of a group. Assumes nothing.
use Rattle.std.specs.Prelude.{ℕ, ◌≡◌, Bool, cond, ◌||◌, List, [], ◌∷◌, ◌++◌, eqb, length, take}
use Rattle.answers.specs.Rules.{Run}
use Rattle.channel.specs.declared.Fields.{Fields}
use Rattle.group.specs.Answers.{Outcome, taken, repeat, whole, refused, GroupAfter, told_join}
use Rattle.group.specs.State.{join_of}
use Rattle.group.specs.declared.Group.{Group}
use Rattle.group.specs.declared.Stepped.{Stepped}

-- a message: its fields and its data
pub record Message : Type 0 where
  pub fields : Fields
  pub bytes : List ℕ

-- a group state and the buffer lent with it
pub record GroupAndBuffer : Type 0 where
  pub group : Group
  pub buffer : List ℕ

-- what `Group::join` gives back, and the buffer as it leaves it
pub record JoinResult : Type 0 where
  pub stepped : Stepped
  pub buffer : List ℕ

abbrev pub told_result : JoinResult → GroupAfter
told_result j = told_join j.stepped j.buffer

-- what it gives for message after message, each time from the state and with the buffer that it left
abbrev pub join_message : GroupAndBuffer → Message → GroupAfter
join_message s m = join_of s.group m.fields m.bytes s.buffer

abbrev pub left_by : GroupAfter → GroupAndBuffer
left_by t = record { group = t.group; buffer = t.buffer }

abbrev pub Joins : GroupAndBuffer → List Message → List JoinResult → Type 0
Joins = Run (λ s m j. told_result j ≡ join_message s m) (λ j. left_by (told_result j))

-- the joined data with that of a message; with a First whatever was gathered is dropped
abbrev pub joined_to : List ℕ → Message → List ℕ
joined_to joined m = cond m.fields.first m.bytes (joined ++ m.bytes)

-- the numbers of the refusals that change nothing; a message of another service, or with COM, has 13 where neither 10 nor 11 comes first
abbrev pub changes_nothing : ℕ → Bool
changes_nothing n = eqb n 10 || eqb n 11 || eqb n 13

-- the joined data after a message, by its answer: "taken", its own is joined on; "repeat", it is as before; "group", the state is idle and there is
-- none; refused with 10, 11 or 13, it is as before; with 8 or 9 the state is idle
abbrev pub joined_after : Outcome → List ℕ → Message → List ℕ
joined_after taken joined m = joined_to joined m
joined_after repeat joined m = joined
joined_after (whole n) joined m = []
joined_after (refused n) joined m = cond (changes_nothing n) joined []

-- and after a run of messages, by what is told of each
abbrev pub joined_by : List GroupAfter → List ℕ → List Message → List ℕ
joined_by [] joined messages = joined
joined_by (t ∷ told) joined [] = joined
joined_by (t ∷ told) joined (m ∷ messages) = joined_by told (joined_after t.answer joined m) messages

-- The leading bytes are the joined data: the state counts as many bytes, and the buffer begins with them. And where one message more is answered
-- "group", its length is that of the joined data with its own (with a First its own alone), which the buffer then begins with.
pub record Leads (s : GroupAndBuffer) (joined : List ℕ) : Type 0 where
  pub counted : s.group.held ≡ length joined
  pub begins : take (length joined) s.buffer ≡ joined
  pub completed : (m : Message) (j : JoinResult) (n : ℕ) → told_result j ≡ join_message s m → (told_result j).answer ≡ whole n
      → (n ≡ length (joined_to joined m)) × (take n j.buffer ≡ joined_to joined m)
