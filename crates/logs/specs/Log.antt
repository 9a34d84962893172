-- Document 01, "The log and its report": what a line is, what a log is, and what is counted. Assumes nothing.
use Rattle.std.specs.Prelude.{ℕ, zero, suc, ◌+◌, ◌-◌, ◌*◌, Bool, true, cond, ◌&&◌, ◌||◌, List, [], ◌∷◌, ◌++◌, length, get_or, ltb, leb, eqb, Option, Some, None}
use Rattle.std.specs.Option.{option_map}
use Rattle.text.specs.Ascii.{ascii, byte, tab, line_feed}
use Rattle.text.specs.Fields.{same_as}
use Rattle.band.specs.Band.{last_channel, is_channel}
use Rattle.logs.specs.declared.Counts.{Counts}
use Rattle.logs.specs.Decimal.{decimal}

-- the slots of a log are at most 999,999
abbrev pub greatest_slot : ℕ
greatest_slot = 999999

-- the first line, without its line feed: `channel` and a channel number
unfoldable pub first_line : ℕ → List ℕ
first_line channel = ascii "channel\t" ++ decimal channel

-- a slot's line: the slot number and an outcome
unfoldable pub slot_line : ℕ → ℕ → List ℕ
slot_line slot outcome = decimal slot ++ (tab ∷ outcome ∷ [])

-- `0` to `8`, the corrected bits
abbrev pub is_corrected : ℕ → Bool
is_corrected outcome = leb (byte "0") outcome && leb outcome (byte "8")

-- or `n`, answer 2; `c`, answer 3; `-`, nothing received
unfoldable pub is_outcome : ℕ → Bool
is_outcome outcome = is_corrected outcome || eqb outcome (byte "n") || eqb outcome (byte "c") || eqb outcome (byte "-")

-- the lines of the slots from this one on
unfoldable pub slot_lines : ℕ → List ℕ → List ℕ
slot_lines slot [] = []
slot_lines slot (outcome ∷ outcomes) = slot_line slot outcome ++ (line_feed ∷ slot_lines (slot + 1) outcomes)

-- the log of a channel and its slots' outcomes, slot 1 first
unfoldable pub log_text : ℕ → List ℕ → List ℕ
log_text channel outcomes = first_line channel ++ (line_feed ∷ slot_lines 1 outcomes)

unfoldable pub all_outcomes : List ℕ → Bool
all_outcomes [] = true
all_outcomes (outcome ∷ outcomes) = is_outcome outcome && all_outcomes outcomes

-- ---- counts

abbrev pub one : Bool → ℕ
one test = cond test 1 0

-- one slot more: `read` counts outcomes 0 to 8 and `bits` adds them up, `clean` counts outcome 0 alone
unfoldable pub counted : Counts → ℕ → Counts
counted counts outcome =
    record {
      channel = counts.channel;
      slots = counts.slots + 1;
      read = counts.read + one (is_corrected outcome);
      clean = counts.clean + one (eqb outcome (byte "0"));
      bits = counts.bits + cond (is_corrected outcome) (outcome - byte "0") 0;
      noword = counts.noword + one (eqb outcome (byte "n"));
      check = counts.check + one (eqb outcome (byte "c"));
      missing = counts.missing + one (eqb outcome (byte "-"));
    }

unfoldable pub counts_from : Counts → List ℕ → Counts
counts_from counts [] = counts
counts_from counts (outcome ∷ outcomes) = counts_from (counted counts outcome) outcomes

-- before the first slot
abbrev pub tuned : ℕ → Counts
tuned channel = record { channel = channel; slots = 0; read = 0; clean = 0; bits = 0; noword = 0; check = 0; missing = 0 }

-- Counts that agree with each other: the slots are at most 999,999, each slot has one outcome, clean ones are among those read, and each
-- other that was read has 1 to 8 bits.
unfoldable pub is_sound : Counts → Bool
is_sound counts =
    leb counts.slots greatest_slot
    && eqb counts.slots (counts.read + counts.noword + counts.check + counts.missing)
    && leb counts.clean counts.read
    && leb (counts.read - counts.clean) counts.bits
    && leb counts.bits (8 * (counts.read - counts.clean))

-- the counts that some accepted log gives
unfoldable pub is_counts : Counts → Bool
is_counts counts = is_channel counts.channel && is_sound counts

-- ---- a line, judged

abbrev pub last : List ℕ → ℕ
last line = get_or line (length line - 1) 0

-- the channel up to n whose first line this is
unfoldable pub channel_up_to : ℕ → List ℕ → Option ℕ
channel_up_to zero line = None
channel_up_to (suc n) line = cond (same_as line (first_line (suc n))) (Some (suc n)) (channel_up_to n line)

-- the line of the next slot, which is at most 999,999
unfoldable pub is_next : ℕ → List ℕ → Bool
is_next slots line = ltb slots greatest_slot && is_outcome (last line) && same_as line (slot_line (slots + 1) (last line))

-- the counts with a line that may come next, none for a bad line; the first line gives the channel
unfoldable pub judged : Counts → List ℕ → Option Counts
judged counts line =
    cond (eqb counts.channel 0) (option_map tuned (channel_up_to last_channel line))
    (cond (is_next counts.slots line) (Some (counted counts (last line))) None)
