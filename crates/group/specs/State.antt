-- Document 01, "Group state", and ticket 2 of document 02, "Repeats are not gaps": a fresh state, the rule of a state, and each message, rule by rule.
-- Assumes nothing.
use Rattle.std.specs.Prelude.{ℕ, ◌+◌, ◌-◌, ◌*◌, ◌%◌, Bool, true, false, not, cond, ◌&&◌, List, eqb, leb, ltb, length, take, drop}
use Rattle.std.specs.Bool.{beq}
use Rattle.std.proofs.Math.Seq.{paste}
use Rattle.answers.specs.Numbers as numbers
use Rattle.answers.specs.Rules.{unless}
use Rattle.text.specs.Fields.{same_as}
use Rattle.channel.specs.declared.Fields.{Fields}
use Rattle.group.specs.Answers.{taken, repeat, whole, refused, GroupAfter, group_after, Made, made}
use Rattle.group.specs.declared.Group.{Group}
use Rattle.group.specs.declared.Phase.{Phase}
use Rattle.group.specs.declared.Phase.TheVariants.{Idle, Gathering}

abbrev pub group_with : ℕ → Phase → ℕ → ℕ → ℕ → ℕ → Group
group_with number phase held messages ci d = record { number = number; phase = phase; held = held; messages = messages; ci = ci; last_length = d }

-- a group state begins idle, with no bytes counted
abbrev pub idle : ℕ → Group
idle number = group_with number Idle 0 0 0 0

-- asked for a number above 16,383 the answer is 11, with the fresh state of number 0
unfoldable pub new_of : ℕ → Made
new_of number = unless (leb number 16383) (made (numbers.refused 11) (idle 0)) (made numbers.accepted (idle number))

-- the length of the message last joined on: all bytes held after one message, else at most 255 and at most the bytes held, leaving at most 255 for
-- each message before (`phase_holds` asks for one message at least)
abbrev pub length_holds : ℕ → ℕ → ℕ → Bool
length_holds held messages d = cond (leb messages 1) (eqb d held) (leb d 255 && leb d held && leb (held - d) (255 * (messages - 1)))

-- idle holds 0 bytes, 0 messages, CI 0 and length 0; gathering holds 1 to 15 messages, at most 255 bytes for each, a CI and a length
abbrev pub phase_holds : Phase → ℕ → ℕ → ℕ → ℕ → Bool
phase_holds Idle held messages ci d = eqb held 0 && eqb messages 0 && eqb ci 0 && eqb d 0
phase_holds Gathering held messages ci d = leb 1 messages && leb messages 15 && leb held (255 * messages) && leb ci 3 && length_holds held messages d

unfoldable pub keeps_rule : Group → Bool
keeps_rule g = leb g.number 16383 && phase_holds g.phase g.held g.messages g.ci g.last_length

-- a message with d data bytes: its number at most 16,383, its data at most 255 bytes, each field within its width
unfoldable pub message_fits : Fields → ℕ → Bool
message_fits m d = leb m.number 16383 && leb d 255 && leb m.ri 3 && leb m.ci 3

-- the data is written at the counted place; with Last the answer is "group" with its length and the state is idle; without, "taken", gathering
unfoldable pub joined_on : Group → Fields → List ℕ → List ℕ → GroupAfter
joined_on g m s buffer =
    cond m.last
    (group_after (whole (g.held + length s)) (idle g.number) (paste buffer g.held s (length s)))
    (group_after taken (group_with g.number Gathering (g.held + length s) (g.messages + 1) m.ci (length s)) (paste buffer g.held s (length s)))

abbrev pub is_idle : Phase → Bool
is_idle Idle = true
is_idle Gathering = false

-- what now stands in the buffer at the place of the message last joined on
abbrev pub last_joined : Group → List ℕ → List ℕ
last_joined g buffer = take g.last_length (drop (g.held - g.last_length) buffer)

-- while gathering, the same CI, First, Last and data as the message last joined on: that was a First where it is the only one, and it was no Last, or
-- the state would be idle
unfoldable pub is_repeat : Group → Fields → List ℕ → List ℕ → Bool
is_repeat g m s buffer =
    not (is_idle g.phase) && eqb m.ci g.ci && beq m.first (eqb g.messages 1) && not m.last && same_as s (last_joined g buffer)

-- buffer short (10); a state otherwise, number above 16,383, data over 255 bytes or a field over its width (11); another service number or COM set (13);
-- a repeat: these change nothing. First set: whatever was gathered is dropped and this data is the group so far. Not First and idle (8), CI not one
-- more, modulo 4 (8), fifteen messages already (9): idle. Otherwise the data is joined on
unfoldable pub join_of : Group → Fields → List ℕ → List ℕ → GroupAfter
join_of g m s buffer =
    unless (leb 3825 (length buffer)) (group_after (refused 10) g buffer)
    (unless (keeps_rule g) (group_after (refused 11) g buffer)
    (unless (message_fits m (length s)) (group_after (refused 11) g buffer)
    (unless (eqb m.number g.number) (group_after (refused 13) g buffer)
    (unless (not m.command) (group_after (refused 13) g buffer)
    (cond (is_repeat g m s buffer) (group_after repeat g buffer)
    (cond m.first (joined_on (idle g.number) m s buffer)
    (unless (not (is_idle g.phase)) (group_after (refused 8) (idle g.number) buffer)
    (unless (eqb m.ci ((g.ci + 1) % 4)) (group_after (refused 8) (idle g.number) buffer)
    (unless (ltb g.messages 15) (group_after (refused 9) (idle g.number) buffer)
    (joined_on g m s buffer))))))))))
