-- The block reader and the block writer undo each other. Assumes nothing.
use mathlib.Core.Path.{◌≡◌, sym, ap, ◌∙◌, subst}
use mathlib.Core.Bool.{Bool, true, false}
use mathlib.Core.List.{List, ◌++◌}
use mathlib.Core.Logic.{inl, inr}
use Prim.Native.Nat.{ℕ, ◌≤◌}
use native.Mathlib.Omega.{arith}
use lib.ListN.{length, take, drop, replicate, take-append-drop}
use lib.Pow.{are_bytes}
use lib.Seq.{take-take, take_at, drop_at}
use Rattle.std.specs.Prelude.{Result}
use Rattle.answers.specs.declared.Refusal.{Refusal}
use Rattle.answers.specs.Numbers.{accepted}
use Rattle.gf2.specs.Poly.{Multiple, check_of, systematic}
use Rattle.gf2.proofs.Remainders.{add_self, systematic_multiple}
use Rattle.code.specs.Code.{generator, CodeWord, difference, ones, distance, most_corrected}
use Rattle.code.proofs.Computed.{generator_length}
use Rattle.code.proofs.Majority.{code_length, only_word}
use Rattle.words.specs.Bytes.{row_of}
use Rattle.words.specs.Words.{row_of_words, zero_words}
use Rattle.words.specs.Near.{Near}
use Rattle.block.specs.Told.{ToldCorrected}
use Rattle.block.specs.Corrector.{Word}
use Rattle.block.specs.Blocks.{check_divisor, CheckRight, block_row, Information, Reads, Block}
use Rattle.words.proofs.Bytes.{length_bits_of, row_once}
use Rattle.words.proofs.Words.{words_once, zero_five, zero_row}
use Rattle.block.proofs.Blocks.{check_length, length_systematic, ending_tested}

-- the row of a written block is a code word with right check bits, and begins with the information
module _ (info : List Bool) (l : length info ≡ 176) where
  checked_length : length (systematic check_divisor info) ≡ 190
  checked_length = length_systematic check_divisor info ∙ omega (arith, check_length)

  pub block_code : CodeWord (block_row info)
  block_code =
      subst (λ (n : ℕ). Multiple generator n (block_row info)) checked_length (systematic_multiple generator (systematic check_divisor info))

  front : take 190 (block_row info) ≡ systematic check_divisor info
  front = take_at (systematic check_divisor info) (check_of generator (systematic check_divisor info)) 190 checked_length

  pub block_information : take 176 (block_row info) ≡ info
  block_information =
      sym (take-take 176 190 (block_row info) (omega arith)) ∙ ap (take 176) front ∙ take_at info (check_of check_divisor info) 176 l

  pub block_check : CheckRight (block_row info)
  block_check = ap (drop 176) front ∙ drop_at info (check_of check_divisor info) 176 l ∙ ap (check_of check_divisor) (sym block_information)

-- a code word with right check bits is the block of its information
pub block_again : (word : List Bool) → CodeWord word → CheckRight word → word ≡ block_row (take 176 word)
block_again word w right =
    sym (take-append-drop 190 word) ∙ ap (λ xs. take 190 word ++ xs) ((ending_tested generator word 190 (omega (arith, code_length word w, generator_length))).0 w)
    ∙ ap (systematic generator) checked
  where
    checked : take 190 word ≡ systematic check_divisor (take 176 word)
    checked = sym (take-append-drop 176 (take 190 word)) ∙ (λ i. take-take 176 190 word (omega arith) i ++ right i)

-- WITH AT MOST EIGHT PLACES CHANGED the reader gives the written information, the places and their number
pub changed_reads : (information block received before after : List ℕ) (r : ToldCorrected) → length information ≡ 22 → row_of block ≡ block_row (row_of information)
    → length received ≡ 34 → length before ≡ 22 → distance (row_of received) (row_of block) ≤ most_corrected → are_bytes information ≡ true → are_bytes after ≡ true
    → Reads received before after r → (r.answer ≡ accepted) × (after ≡ information) × Near (row_of received) (row_of block) r.count r.changed
changed_reads information block received before after r li written lr lb near bi ba = outcome
  where
    info_length : length (row_of information) ≡ 176
    info_length = length_bits_of 8 information ∙ omega arith

    code : CodeWord (row_of block)
    code = subst CodeWord (sym written) (block_code (row_of information) info_length)

    same : (word : List Bool) → Near (row_of received) word r.count r.changed → word ≡ row_of block
    same word n = only_word (row_of received) word (row_of block) (length_bits_of 8 received ∙ omega arith) n.code code n.near near

    outcome : Reads received before after r → (r.answer ≡ accepted) × (after ≡ information) × Near (row_of received) (row_of block) r.count r.changed
    outcome (inl o) = absurd (o.wrong (record { input = lr; output = lb }))
    outcome (inr (inl o)) = absurd (o.none (row_of block) code near)
    outcome (inr (inr (inl o))) =
        absurd (o.wrong (subst CheckRight (sym (same o.word o.found ∙ written)) (block_check (row_of information) info_length)))
    outcome (inr (inr (inr o))) =
        let word : o.word ≡ row_of block = same o.word o.found in (
          o.answers,
          row_once after information ba bi (o.long ∙ sym li) (o.given ∙ ap (take 176) (word ∙ written) ∙ block_information (row_of information) info_length),
          subst (λ (w : List Bool). Near (row_of received) w r.count r.changed) word o.found,
        )

-- WHAT IS WRITTEN READS BACK, with 0 corrected and no place changed
pub written_reads : (information room block before after : List ℕ) (made : Result Unit Refusal) (r : ToldCorrected) → Block information room block made → length before ≡ 22
    → are_bytes information ≡ true → are_bytes after ≡ true → Reads block before after r
    → (r.answer ≡ accepted) × (after ≡ information) × (r.count ≡ 0) × (r.changed ≡ zero_words)
written_reads information room block before after made r b lb bi ba o =
    let long : length (row_of block) ≡ 272 = length_bits_of 8 block ∙ omega (arith, b.long) in
    let same : difference (row_of block) (row_of block) ≡ row_of_words zero_words = add_self (row_of block) ∙ ap (λ (n : ℕ). replicate n false) long ∙ sym zero_row in
    let none : distance (row_of block) (row_of block) ≡ 0 = ap ones (same ∙ zero_row) in
    let read = changed_reads information block block before after r b.sized.input b.written b.long lb (omega arith) bi ba o in
    let row = read.2.places ∙ same in
    (read.0, read.1, read.2.counts ∙ ap ones (row ∙ zero_row), words_once r.changed zero_words read.2.words zero_five row)

-- WHAT THE READER ACCEPTS, WRITTEN AGAIN, is the corrected code word
pub read_again : (received before information room block out corrected : List ℕ) (read written : ToldCorrected) (made : Result Unit Refusal) → Information received before information read
    → Block information room block made → Word received out corrected written → are_bytes block ≡ true → are_bytes corrected ≡ true → block ≡ corrected
read_again received before information room block out corrected read written made i w v bb bc =
    row_once block corrected bb bc (w.long ∙ sym v.long)
    (w.written ∙ ap block_row i.given ∙ sym (block_again i.word i.found.code i.right)
    ∙ only_word (row_of received) i.word v.word (length_bits_of 8 received ∙ omega (arith, i.sized.input)) i.found.code v.found.code i.found.near v.found.near
    ∙ sym v.written)
