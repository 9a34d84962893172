-- Document 01, "Reading back is claimed from a ready channel that expects the starting SC. Written again, an accepted message has the same
-- header, data and padding, and the same blocks where its first SC is given and all its DIs were the one given." What these claims say: `ReadBack`,
-- `WrittenAgain` and `GroupBack` of any outcomes that the contracts of the writers, of `Channel::step` and of `Group::join` allow, `MessageAgain` of
-- the bytes of a message, as the writer's definitions lay them out. With ticket 2 of document 02 a group's messages may be sent again. Assumes nothing.
use Rattle.std.specs.Prelude.{ℕ, zero, suc, ◌+◌, ◌-◌, ◌%◌, ◌≤◌, ◌≡◌, Bool, true, false, cond, List, [], ◌∷◌, ◌++◌, map, length, take, drop, replicate, Result}
use Rattle.answers.specs.Numbers as answers
use Rattle.answers.specs.Rules.{Run, state_left}
use Rattle.gf2.specs.Poly.{bit}
use Rattle.header.specs.Header.{field}
use Rattle.channel.specs.Answers.{Outcome, taken, message, refused, ChannelAfter, told_step}
use Rattle.channel.specs.Layer3.{layer3, header_of}
use Rattle.channel.specs.Layer4.{blocks_filled, data_of}
use Rattle.channel.specs.State.{keeps_rule, step_of}
use Rattle.channel.specs.declared.Channel.{Channel}
use Rattle.channel.specs.declared.Fields.{Fields}
use Rattle.channel.specs.declared.Header.{Header}
use Rattle.channel.specs.declared.Phase.TheVariants.{Ready}
use Rattle.channel.specs.declared.Stepped.{Stepped}
use Rattle.group.specs.Answers as group
use Rattle.group.specs.Answers.{GroupAfter}
use Rattle.group.specs.Leading.{Message, GroupAndBuffer, left_by}
use Rattle.group.specs.State.{idle, is_repeat}
use Rattle.group.specs.Repeats.{Sent, TwoBits}
use Rattle.writer.specs.Message.{header_for, message_bytes, message_in_widths, write_message_of, flat, LeavesBlocks, wrote_answer, wrote_blocks}
use Rattle.answers.specs.declared.Refusal.{Refusal}

-- ---- blocks through a channel

-- so many information blocks, 22 bytes each, from the front of an output
abbrev pub pieces : ℕ → List ℕ → List (List ℕ)
pieces zero output = []
pieces (suc k) output = take 22 output ∷ pieces k (drop 22 output)

-- what `Channel::step` gives for block after block, each time from the channel that it left
abbrev pub Steps : Channel → List (List ℕ) → List Stepped → Type 0
Steps = Run (λ c b r. told_step r ≡ step_of c b) (λ r. r.channel)

-- every answer that is told, and the channel at the end
abbrev pub answers_in : List ChannelAfter → List Outcome
answers_in told = map (λ t. t.answer) told

abbrev pub channel_left : Channel → List ChannelAfter → Channel
channel_left = state_left (λ t. t.channel)

-- a channel that can take a message: ready, its rule kept, and its 260 bytes there
pub record Listens (c : Channel) : Type 0 where
  pub ready : c.phase ≡ Ready
  pub rule : keeps_rule c ≡ true
  pub full : length c.bytes ≡ 260

-- ---- a message reads back

-- "taken" .. "message" with every header field
abbrev pub heard : Header → List Outcome
heard m = replicate (blocks_filled m - 1) taken ++ (message m ∷ [])

-- of a message written in so many blocks, what is told of them by a channel that listens and expects their first SC: "taken" .. "message", and the
-- channel listens again, expects the SC after the last block's, and holds the data from byte h on
pub record ReadBack (m : Fields) (s : List ℕ) (blocks : ℕ) (c : Channel) (told : List ChannelAfter) : Type 0 where
  pub count : blocks ≡ blocks_filled (header_for m (length s))
  pub answers : answers_in told ≡ heard (header_for m (length s))
  pub listens : Listens (channel_left c told)
  pub expected : (channel_left c told).expected ≡ (c.expected + blocks) % 16
  pub stands : data_of (header_for m (length s)) (channel_left c told).bytes ≡ s

-- ---- an accepted message, written again

-- all with this DI
abbrev pub AllWith : Bool → List (List ℕ) → Type 0
AllWith di [] = Unit
AllWith di (b ∷ blocks) = (field layer3 1 (header_of b) ≡ bit di) × AllWith di blocks

-- the twenty data bytes of each block, one after the other
abbrev pub twenties : List (List ℕ) → List ℕ
twenties blocks = flat (map (drop 2) blocks)

-- the fields of a header that the writer takes
abbrev pub fields_of : Header → Fields
fields_of m = record { ri = m.ri; ci = m.ci; first = m.first; last = m.last; number = m.number; command = m.command }

-- of an accepted message whose gathered bytes stand in front of the channel's: with any SC up to 15 its fields and its data pass the writer's test
-- of widths, so that only a short output is refused, and header, data and padding as the writer lays them are the gathered bytes; `output_again`
-- says it of what the writer leaves
pub record MessageAgain (m : Header) (bytes gathered : List ℕ) : Type 0 where
  pub front : take (length gathered) bytes ≡ gathered
  pub fits : (sc : ℕ) → sc ≤ 15 → message_in_widths (fields_of m) sc (length (data_of m bytes)) ≡ true
  pub header : header_for (fields_of m) (length (data_of m bytes)) ≡ m
  pub same : message_bytes (header_for (fields_of m) (length (data_of m bytes))) (data_of m bytes) ≡ gathered

-- and of what the writer leaves: it is accepted, and these are its blocks
pub record WrittenAgain (blocks : List (List ℕ)) (w : Result ℕ Refusal) (output : List ℕ) : Type 0 where
  pub accepted : wrote_answer w ≡ answers.accepted
  pub same : pieces (wrote_blocks w) output ≡ blocks

-- ---- a group reads back

-- the messages that a channel gave, each with its data as the channel then held it
abbrev pub message_in : Outcome → Channel → List Message
message_in taken c = []
message_in (message h) c = record { fields = fields_of h; bytes = data_of h c.bytes } ∷ []
message_in (refused n) c = []

abbrev pub messages_in : List ChannelAfter → List Message
messages_in told = flat (map (λ t. message_in t.answer t.channel) told)

-- of messages written in so many blocks, what is told of them by a channel: "taken" .. "message" for each, with its fields and its data, and the
-- channel listens again and expects the SC after the last block's
pub record AllRead (messages : List Message) (blocks : ℕ) (c : Channel) (told : List ChannelAfter) : Type 0 where
  pub answers : answers_in told ≡ flat (map (λ m. heard (header_for m.fields (length m.bytes))) messages)
  pub given : messages_in told ≡ messages
  pub listens : Listens (channel_left c told)
  pub expected : (channel_left c told).expected ≡ (c.expected + blocks) % 16

-- whether the first of these messages is a repeat to this state, which then holds just that message
abbrev pub first_is_repeat : GroupAndBuffer → List Message → Bool
first_is_repeat g [] = false
first_is_repeat g (m ∷ messages) = is_repeat g.group m.fields m.bytes g.buffer

-- the answers to k messages and the one that makes a group of n bytes: "taken" .. "group", but "repeat" to the first of several where it is one
abbrev pub group_answers : Bool → ℕ → ℕ → List group.Outcome
group_answers again zero n = group.whole n ∷ []
group_answers again (suc k) n = cond again group.repeat group.taken ∷ group_answers false k n

-- what `write_message` gave for a message: the SC it was to start with, what it returned, and the output before and after
pub record WroteMessage : Type 0 where
  pub sc : ℕ
  pub wrote : Result ℕ Refusal
  pub before : List ℕ
  pub after : List ℕ

-- what it gave, accepted, for message after message with one DI, each time with the SC that follows the blocks before
abbrev pub WroteAll : Bool → ℕ → List Message → List WroteMessage → Type 0
WroteAll di =
    Run
    (λ sc m o. (o.sc ≡ sc) × (wrote_answer o.wrote ≡ answers.accepted) × LeavesBlocks (write_message_of m.fields di sc m.bytes (length o.before)) o.wrote o.before o.after)
    (λ o. (o.sc + wrote_blocks o.wrote) % 16)

-- the blocks that it left, one message's after the other's
abbrev pub blocks_left : List WroteMessage → List (List ℕ)
blocks_left written = flat (map (λ o. pieces (wrote_blocks o.wrote) o.after) written)

-- each message but the last with any copies behind it, their RI of two bits; the last with none
abbrev pub LastOnce : List Sent → Type 0
LastOnce [] = Unit
LastOnce (x ∷ []) = x.copies ≡ []
LastOnce (x ∷ y ∷ sent) = TwoBits x.copies × LastOnce (y ∷ sent)

-- of a group's messages written in so many blocks, these through a channel, and the messages that it gave through a group state: these answers, the
-- state idle, and the data in front of the buffer
pub record GroupBack (number : ℕ) (s : List ℕ) (messages : List Message) (blocks : ℕ) (c : Channel) (told : List ChannelAfter) (due : List group.Outcome) (g : GroupAndBuffer) (joined : List GroupAfter)
    : Type 0 where
  pub read : AllRead messages blocks c told
  pub answers : map (λ t. t.answer) joined ≡ due
  pub state : (state_left left_by g joined).group ≡ idle number
  pub bytes : take (length s) (state_left left_by g joined).buffer ≡ s
