-- Document 01, "Examples on each side": the examples marked P, in its order, and what each one claims of every outcome
-- that the promises allow. Assumes nothing.
use Rattle.std.specs.Prelude.{◌≡◌, Bool, true, false, List, [], ◌∷◌, ◌++◌, ℕ, ◌*◌, ◌≤◌, length, get_or, replicate, Result}
use Rattle.std.proofs.Math.Pow.{are_bytes}
use Rattle.answers.specs.Numbers.{accepted, refused}
use Rattle.answers.specs.declared.Refusal.{Refusal}
use Rattle.code.specs.Code.{generator, ones, distance}
use Rattle.block.specs.declared.Corrected.{Corrected}
use Rattle.block.specs.declared.Unread.{Unread}
use Rattle.block.specs.Told.{told_corrected, told_read}
use Rattle.words.specs.Bytes.{row_of}
use Rattle.words.specs.Words.{row_of_words, zero_words}
use Rattle.block.specs.Corrector.{Corrects}
use Rattle.block.specs.Blocks.{Reads}
use Rattle.channel.specs.declared.Channel.{Channel}
use Rattle.channel.specs.declared.Phase.TheVariants.{Ready}
use Rattle.channel.specs.declared.Stepped.{Stepped}
use Rattle.channel.specs.declared.Fields.{Fields}
use Rattle.channel.specs.Answers as channel
use Rattle.channel.specs.Answers.{channel_after}
use Rattle.channel.specs.State.{channel_with, fresh, keeps_rule, step_of}
use Rattle.writer.specs.Message.{write_message_of, wrote_answer, wrote_blocks, LeavesBlocks}
use Rattle.band.specs.declared.Kilohertz.{Kilohertz}
use Rattle.band.specs.declared.Channel as band
use Rattle.band.specs.Band.{told_kilohertz, kilohertz_of, told_channel, numbered_of}

pub data Example : Type 0 where
  -- the corrector answers these bytes with this word, this count and this row of changed places
  word : (received corrected : List ℕ) (count : ℕ) (row : List Bool) → Example
  -- the corrector answers 2, with a zero row
  no_word : (received : List ℕ) → Example
  -- these bytes are the generator itself in the last 83 positions, and have so many ones
  generator_last : (block : List ℕ) (many : ℕ) → Example
  -- the block reader answers 3 with this count and this row
  wrong_check : (received : List ℕ) (count : ℕ) (row : List Bool) → Example
  -- the generator with so many of its ones cleared, and there is such a block: whichever they are, the corrector answers with this
  -- word and this count, and the row has the ones that are left
  cleared_word : (many : ℕ) (corrected : List ℕ) (count : ℕ) → Example
  -- the same with so many cleared: the corrector answers 2, with a zero row
  cleared_no_word : (many : ℕ) → Example
  -- this header holds, with LF set: with any twenty data bytes it takes a fresh channel (answer 8) from waiting to ready,
  -- expecting this SC
  header_holds : (first second expected : ℕ) → Example
  -- this header is refused with this number: with any twenty data bytes, and in any state that keeps its rule, which is
  -- left as it was
  header_refused : (first second number : ℕ) → Example
  -- a channel number has this many kHz
  khz : (channel kilohertz : ℕ) → Example
  -- a channel number is refused, where the channel and where its kHz are asked for
  reserved : (channel : ℕ) → Example
  -- short header with so many data bytes: so many blocks
  short : (bytes blocks : ℕ) → Example
  -- extended header with so many data bytes: so many blocks
  extended : (bytes blocks : ℕ) → Example

abbrev pub zeros : ℕ → List ℕ
zeros n = replicate n 0

-- no place is changed
abbrev pub no_place : List Bool
no_place = replicate 272 false

-- the first eight places are changed
abbrev pub first_eight : List Bool
first_eight = replicate 8 true ++ replicate 264 false

-- the generator itself in the last 83 positions: the table claims that it is
abbrev pub generator_block : List ℕ
generator_block = zeros 23 ++ (32 ∷ 12 ∷ 49 ∷ 128 ∷ 136 ∷ 128 ∷ 40 ∷ 128 ∷ 34 ∷ 32 ∷ 136 ∷ [])

-- the same with so many of its ones cleared: it differs in so many places, and a one of it is always one of the generator's
pub record Cleared (many : ℕ) (received : List ℕ) : Type 0 where
  pub long : length received ≡ 34
  pub differs : distance (row_of received) (row_of generator_block) ≡ many
  pub within : (p : ℕ) → get_or (row_of received) p false ≡ true → get_or (row_of generator_block) p false ≡ true

abbrev pub table : List Example
table =
    -- P1, P2, P3
    word (zeros 34) (zeros 34) 0 no_place ∷ word (255 ∷ zeros 33) (zeros 34) 8 first_eight ∷ no_word (255 ∷ 1 ∷ zeros 32)
    -- P4
    ∷ generator_last generator_block 18 ∷ word generator_block generator_block 0 no_place ∷ wrong_check generator_block 0 no_place
    -- P5
    ∷ cleared_word 10 (zeros 34) 8 ∷ cleared_no_word 9
    -- P6 A4 19, P7 A4 18, P8 a zero header
    ∷ header_holds 164 25 1 ∷ header_refused 164 24 4 ∷ header_refused 0 0 5
    -- P9, P10
    ∷ khz 1 87600 ∷ khz 204 107900 ∷ reserved 205
    -- P11, P12; beside them the extended header with 255 bytes, and no data with either header
    ∷ short 16 1 ∷ short 17 2 ∷ extended 255 13 ∷ short 0 1 ∷ extended 0 1 ∷ []

-- every outcome of the corrector for these bytes: accepted, with this word, this count and this row
abbrev pub GivesWord : (received corrected : List ℕ) (count : ℕ) (row : List Bool) → Type 0
GivesWord received corrected count row =
    (before after : List ℕ) (r : Result Corrected Refusal) → length before ≡ 34 → are_bytes after ≡ true → let t = told_corrected r in
    Corrects received before after t → (t.answer ≡ accepted) × (after ≡ corrected) × (t.count ≡ count) × (row_of_words t.changed ≡ row)

-- every outcome of the corrector for these bytes: answer 2, count 0, the row zero, the output as before
abbrev pub GivesNoWord : (received : List ℕ) → Type 0
GivesNoWord received =
    (before after : List ℕ) (r : Result Corrected Refusal) → length before ≡ 34 → let t = told_corrected r in
    Corrects received before after t → (t.answer ≡ refused 2) × (after ≡ before) × (t.count ≡ 0) × (t.changed ≡ zero_words)

-- every outcome of the message writer for fields within their widths, a number from `least` to `most`, so many data bytes
-- and room enough: accepted, with so many blocks
abbrev pub Fills : (least most bytes blocks : ℕ) → Type 0
Fills least most bytes blocks =
    (m : Fields) (di : Bool) (sc : ℕ) (s before after : List ℕ) (r : Result ℕ Refusal) → m.ri ≤ 3 → m.ci ≤ 3 → least ≤ m.number → m.number ≤ most → sc ≤ 15
    → length s ≡ bytes → 22 * blocks ≤ length before → LeavesBlocks (write_message_of m di sc s (length before)) r before after
    → (wrote_answer r ≡ accepted) × (wrote_blocks r ≡ blocks)

abbrev pub Holds : Example → Type 0
Holds (word received corrected count row) = GivesWord received corrected count row
Holds (no_word received) = GivesNoWord received
Holds (generator_last block many) = (row_of block ≡ replicate 189 false ++ (true ∷ generator)) × (ones (row_of block) ≡ many)
Holds (wrong_check received count row) =
    (before after : List ℕ) (r : Result Corrected Unread) → length before ≡ 22 → let t = told_read r in
    Reads received before after t → (t.answer ≡ refused 3) × (after ≡ before) × (t.count ≡ count) × (row_of_words t.changed ≡ row)
Holds (cleared_word many corrected count) =
    ((received : List ℕ) × Cleared many received) × ((received : List ℕ) → Cleared many received → GivesWord received corrected count (row_of received))
Holds (cleared_no_word many) = ((received : List ℕ) × Cleared many received) × ((received : List ℕ) → Cleared many received → GivesNoWord received)
Holds (header_holds first second expected) =
    (twenty : List ℕ) (r : Stepped) → length twenty ≡ 20 → channel.told_step r ≡ step_of fresh (first ∷ second ∷ twenty)
    → channel.told_step r ≡ channel_after (channel.refused 8) (channel_with (zeros 260) 0 Ready expected)
Holds (header_refused first second number) =
    (c : Channel) (twenty : List ℕ) (r : Stepped) → keeps_rule c ≡ true → length twenty ≡ 20 → channel.told_step r ≡ step_of c (first ∷ second ∷ twenty)
    → channel.told_step r ≡ channel_after (channel.refused number) c
Holds (khz channel kilohertz) =
    (r : Result Kilohertz Refusal) → let t = told_kilohertz r in
    t ≡ kilohertz_of (record { 0 = channel }) → (t.answer ≡ accepted) × (t.number ≡ kilohertz)
Holds (reserved channel) =
    ((r : Result band.Channel Refusal) → let t = told_channel r in
    t ≡ numbered_of channel → (t.answer ≡ refused 11) × (t.number ≡ 0))
    × ((r : Result Kilohertz Refusal) → let t = told_kilohertz r in
    t ≡ kilohertz_of (record { 0 = channel }) → (t.answer ≡ refused 11) × (t.number ≡ 0))
-- a number below 512 is written without EXT, a greater one with it
Holds (short bytes blocks) = Fills 0 511 bytes blocks
Holds (extended bytes blocks) = Fills 512 16383 bytes blocks

abbrev pub AllHold : List Example → Type 0
AllHold [] = Unit {0}
AllHold (example ∷ others) = Holds example × AllHold others
