-- Ticket 2 of document 02, "Repeats are not gaps": what is claimed of messages that are handed in again, of any outcomes that the contract of
-- `Group::join` allows. Assumes nothing.
use Rattle.std.specs.Prelude.{ℕ, ◌≤◌, ◌≡◌, List, [], ◌∷◌, ◌++◌, map, length, replicate}
use Rattle.answers.specs.Rules.{state_left}
use Rattle.channel.specs.declared.Fields.{Fields}
use Rattle.group.specs.Answers.{Outcome, taken, repeat, whole, refused, GroupAfter, group_after}
use Rattle.group.specs.Leading.{Message, GroupAndBuffer, left_by}

-- the same message with an RI of its own
abbrev pub with_ri : Fields → ℕ → Fields
with_ri m ri = record { ri = ri; ci = m.ci; first = m.first; last = m.last; number = m.number; command = m.command }

abbrev pub copy_of : Message → ℕ → Message
copy_of m ri = record { fields = with_ri m.fields ri; bytes = m.bytes }

-- a message, and the RI of each copy of it that comes directly behind it
pub record Sent : Type 0 where
  pub message : Message
  pub copies : List ℕ

-- messages, each once
abbrev pub once : List Sent → List Message
once sent = map (λ x. x.message) sent

-- and each with its copies directly behind it
abbrev pub often : List Sent → List Message
often [] = []
often (x ∷ sent) = x.message ∷ (map (copy_of x.message) x.copies ++ often sent)

-- every RI within its width of two bits
abbrev pub TwoBits : List ℕ → Type 0
TwoBits [] = Unit
TwoBits (ri ∷ copies) = (ri ≤ 3) × TwoBits copies

-- any copies with an RI of two bits behind a message that is answered "taken", or "repeat" itself; none behind one that ends a group or is refused
abbrev pub MayRepeat : Outcome → List ℕ → Type 0
MayRepeat taken copies = TwoBits copies
MayRepeat repeat copies = TwoBits copies
MayRepeat (whole n) copies = copies ≡ []
MayRepeat (refused n) copies = copies ≡ []

-- the same of every message, by the answer that it gets where none is copied
abbrev pub AllMayRepeat : List GroupAfter → List Sent → Type 0
AllMayRepeat [] [] = Unit
AllMayRepeat [] (x ∷ sent) = ⊥
AllMayRepeat (t ∷ told) [] = ⊥
AllMayRepeat (t ∷ told) (x ∷ sent) = MayRepeat t.answer x.copies × AllMayRepeat told sent

-- behind what is told of each message, for each copy of it what is told of a repeat
abbrev pub with_repeats : {A : Type 0} → (A → A) → List A → List Sent → List A
with_repeats again [] sent = []
with_repeats again (t ∷ told) [] = t ∷ told
with_repeats again (t ∷ told) (x ∷ sent) = t ∷ (replicate (length x.copies) (again t) ++ with_repeats again told sent)

-- a repeat leaves the state and the buffer as the message before it left them
abbrev pub repeat_of : GroupAfter → GroupAfter
repeat_of t = group_after repeat t.group t.buffer

-- of what is told without copies and with them: every copy is answered "repeat", and all other answers, the state and the buffer are what they were
pub record Harmless (s : GroupAndBuffer) (sent : List Sent) (told with_copies : List GroupAfter) : Type 0 where
  pub answered : with_copies ≡ with_repeats repeat_of told sent
  pub left : state_left left_by s with_copies ≡ state_left left_by s told
