-- Document 01, "Channel state": a fresh state, the rule of a state, and each information block, rule by rule. Assumes nothing.
use Rattle.std.specs.Prelude.{ℕ, ◌+◌, ◌%◌, Bool, true, false, not, cond, ◌&&◌, List, eqb, leb, ltb, length, take, drop, replicate}
use Rattle.std.proofs.Math.Seq.{paste}
use Rattle.answers.specs.Rules.{unless}
use Rattle.header.specs.Header.{total, holds}
use Rattle.channel.specs.Answers.{taken, refused, ChannelAfter, channel_after}
use Rattle.channel.specs.Layer3.{layer3, header_of, si_lch_of, lf_of, sc_of}
use Rattle.channel.specs.Layer4.{message_of}
use Rattle.channel.specs.declared.Channel.{Channel}
use Rattle.channel.specs.declared.Phase.{Phase}
use Rattle.channel.specs.declared.Phase.TheVariants.{Waiting, Ready, Gathering}

abbrev pub channel_with : List ℕ → ℕ → Phase → ℕ → Channel
channel_with bytes gathered phase expected = record { bytes = bytes; gathered = gathered; phase = phase; expected = expected }

-- a fresh one is waiting, all numbers and bytes zero
unfoldable pub fresh : Channel
fresh = channel_with (replicate 260 0) 0 Waiting 0

-- waiting and ready hold length 0, waiting expects 0, gathering holds 20 to 260 bytes in twenties
abbrev pub phase_holds : Phase → ℕ → ℕ → Bool
phase_holds Waiting gathered expected = eqb gathered 0 && eqb expected 0
phase_holds Ready gathered expected = eqb gathered 0
phase_holds Gathering gathered expected = leb 20 gathered && leb gathered 260 && eqb (gathered % 20) 0

-- and SC is at most 15
unfoldable pub keeps_rule : Channel → Bool
keeps_rule c = leb c.expected 15 && phase_holds c.phase c.gathered c.expected

abbrev pub is_waiting : Phase → Bool
is_waiting Waiting = true
is_waiting Ready = false
is_waiting Gathering = false

-- as waiting: with LF, ready and expecting SC + 1; without, still waiting; dropping changes no byte
unfoldable pub as_waiting : Channel → Bool → ℕ → Channel
as_waiting c lf sc = cond lf (channel_with c.bytes 0 Ready ((sc + 1) % 16)) (channel_with c.bytes 0 Waiting 0)

-- joined on: without LF "taken", gathering; with LF ready, and the message is read
unfoldable pub after_joining : List ℕ → ℕ → Bool → ℕ → ChannelAfter
after_joining bytes gathered lf next =
    cond lf
    (channel_after (message_of (take gathered bytes)) (channel_with bytes 0 Ready next))
    (channel_after taken (channel_with bytes gathered Gathering next))

-- state (11), length (1), channel (5), header check (4): these leave the state as it stood. Then waiting (8), SC not the expected one (8), thirteen blocks
-- already gathered (9): dropped, then as waiting. Otherwise the twenty bytes are joined on
unfoldable pub step_of : Channel → List ℕ → ChannelAfter
step_of c information =
    let h = header_of information in
    unless (keeps_rule c) (channel_after (refused 11) c)
    (unless (eqb (length information) 22) (channel_after (refused 1) c)
    (unless (eqb (si_lch_of h) 10) (channel_after (refused 5) c)
    (unless (holds (total layer3) h) (channel_after (refused 4) c)
    (unless (not (is_waiting c.phase)) (channel_after (refused 8) (as_waiting c (lf_of h) (sc_of h)))
    (unless (eqb (sc_of h) c.expected) (channel_after (refused 8) (as_waiting c (lf_of h) (sc_of h)))
    (unless (ltb c.gathered 260) (channel_after (refused 9) (as_waiting c (lf_of h) (sc_of h)))
    (after_joining (paste c.bytes c.gathered (drop 2 information) 20) (c.gathered + 20) (lf_of h) ((sc_of h + 1) % 16))))))))
