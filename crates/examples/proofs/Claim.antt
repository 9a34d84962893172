-- THE EXAMPLES MARKED P HOLD, all of them, of every outcome that the promises allow. Assumes nothing.
use mathlib.Core.Path.{◌≡◌, refl, sym, ap, ◌∙◌, subst}
use mathlib.Core.Bool.{Bool, true, false, not, ◌&&◌, ◌||◌, false≢true}
use mathlib.Core.List.{List, [], ◌∷◌, ◌++◌}
use mathlib.Core.Logic.{inl, inr}
use Prim.Native.Nat.{ℕ, zero, suc, ◌+◌, ◌*◌, ◌≤◌}
use native.Mathlib.Omega.{arith}
use borrow.Author.Tests.{le-leb, lt-leb}
use lib.Dec.{T, leb, lit≤}
use lib.Ieee.Fits.{and_r}
use lib.ListN.{length, get_or, replicate}
use lib.Pow.{are_bytes}
use Rattle.answers.specs.Numbers.{accepted, refused}
use Rattle.gf2.proofs.Remainders.{add_zeros}
use Rattle.code.specs.Code.{generator, CodeWord, difference, ones, distance}
use Rattle.code.proofs.Majority.{only_word, nine_away}
use Rattle.words.specs.Bytes.{bit_of, bits_of, row_of}
use Rattle.words.specs.Words.{row_of_words}
use Rattle.words.specs.Near.{Near}
use Rattle.block.specs.Told.{told_corrected, told_read}
use Rattle.block.specs.Corrector.{Corrects}
use Rattle.block.specs.Blocks.{check_divisor, CheckRight, Reads}
use Rattle.words.proofs.Bytes.{row_once, length_bits_of}
use Rattle.header.specs.Header.{bits, check}
use Rattle.channel.specs.Layer4.{size_of, blocks_for}
use Rattle.channel.specs.State.{fresh, keeps_rule, as_waiting, step_of}
use Rattle.writer.specs.Message.{ToldBlocks}
use Rattle.writer.proofs.Laws.{within_true}
use Rattle.writer.proofs.Writing.{message_count, message_written}
use Rattle.band.specs.Band.{ToldNumber}
use Rattle.examples.specs.Table.{word, no_word, generator_last, wrong_check, cleared_word, cleared_no_word, header_holds, header_refused, khz, reserved, short, extended, Holds, AllHold, Cleared, Fills, zeros, no_place, first_eight, generator_block, table}

-- the only word within eight places of what was received
module _ (received corrected : List ℕ) (lr : length received ≡ 34) (code : CodeWord (row_of corrected)) (near : distance (row_of received) (row_of corrected) ≤ 8) where
  only : {word : List Bool} {n : ℕ} {changed : List ℕ} → Near (row_of received) word n changed → word ≡ row_of corrected
  only {word} f = only_word (row_of received) word (row_of corrected) (length_bits_of 8 received ∙ omega arith) f.code code f.near near

-- a code word at so many places is what the corrector answers with
word_holds : (received corrected : List ℕ) (count : ℕ) (row : List Bool) → length received ≡ 34 → length corrected ≡ 34 → are_bytes corrected ≡ true
    → CodeWord (row_of corrected) → difference (row_of received) (row_of corrected) ≡ row → ones row ≡ count → count ≤ 8 → Holds (word received corrected count row)
word_holds received corrected count row lr lc bc code away many near before after r lb ba = outcome
  where
    close : distance (row_of received) (row_of corrected) ≤ 8
    close = omega (arith, ap ones away)

    outcome : let t = told_corrected r in
        Corrects received before after t → (t.answer ≡ accepted) × (after ≡ corrected) × (t.count ≡ count) × (row_of_words t.changed ≡ row)
    outcome (inl u) = absurd (u.wrong (record { input = lr; output = lb }))
    outcome (inr (inl u)) = absurd (u.none (row_of corrected) code close)
    outcome (inr (inr u)) =
        let same = only received corrected lr code close u.found in
        let places = ap (difference (row_of received)) same ∙ away in
        (u.answers, row_once after corrected ba bc (u.long ∙ sym lc) (u.written ∙ same), u.found.counts ∙ ap ones (u.found.places ∙ places) ∙ many, u.found.places ∙ places)

-- nine places away from a code word is refused
no_word_holds : (received nine : List ℕ) → length received ≡ 34 → CodeWord (row_of nine) → distance (row_of received) (row_of nine) ≡ 9 → Holds (no_word received)
no_word_holds received nine lr code away before after r lb (inl u) = absurd (u.wrong (record { input = lr; output = lb }))
no_word_holds received nine lr code away before after r lb (inr (inl u)) = (u.answers, u.same, u.counts, u.places)
no_word_holds received nine lr code away before after r lb (inr (inr u)) =
    absurd (nine_away (row_of received) (row_of nine) (length_bits_of 8 received ∙ omega arith) code away u.word u.found.code u.found.near)

-- a code word with wrong check bits, received as it is
wrong_check_holds : (received : List ℕ) → length received ≡ 34 → CodeWord (row_of received) → difference (row_of received) (row_of received) ≡ no_place
    → (CheckRight (row_of received) → ⊥) → Holds (wrong_check received 0 no_place)
wrong_check_holds received lr code away wrong before after r lb = outcome
  where
    close : distance (row_of received) (row_of received) ≤ 8
    close = omega (arith, ap ones away)

    outcome : let t = told_read r in
        Reads received before after t → (t.answer ≡ refused 3) × (after ≡ before) × (t.count ≡ 0) × (row_of_words t.changed ≡ no_place)
    outcome (inl u) = absurd (u.wrong (record { input = lr; output = lb }))
    outcome (inr (inl u)) = absurd (u.none (row_of received) code close)
    outcome (inr (inr (inl u))) =
        let places = ap (difference (row_of received)) (only received received lr code close u.found) ∙ away in
        (u.answers, u.same, u.found.counts ∙ ap ones (u.found.places ∙ places), u.found.places ∙ places)
    outcome (inr (inr (inr u))) = absurd (wrong (subst CheckRight (only received received lr code close u.found) u.right))

zero_code : CodeWord (row_of (zeros 34))
unfolding bits_of bit_of generator
zero_code = record { quotient = replicate 190 false; long = refl; product = refl }

p4_generator : Holds (generator_last generator_block 18)
unfolding bits_of bit_of generator
p4_generator = (refl, refl)

generator_code : CodeWord (row_of generator_block)
unfolding bits_of bit_of generator
generator_code = record { quotient = replicate 189 false ++ (true ∷ []); long = refl; product = refl }

-- its last check bit is the generator's leading term, and the check of no information is zero
generator_check : CheckRight (row_of generator_block) → ⊥
unfolding bits_of bit_of check_divisor
generator_check e = false≢true (sym (ap (λ row. get_or row 13 false) e))

p1 : Holds (word (zeros 34) (zeros 34) 0 no_place)
unfolding bits_of bit_of
p1 = word_holds (zeros 34) (zeros 34) 0 no_place refl refl refl zero_code refl refl (lit≤ tt)

p2 : Holds (word (255 ∷ zeros 33) (zeros 34) 8 first_eight)
unfolding bits_of bit_of
p2 = word_holds (255 ∷ zeros 33) (zeros 34) 8 first_eight refl refl refl zero_code refl refl (lit≤ tt)

p3 : Holds (no_word (255 ∷ 1 ∷ zeros 32))
unfolding bits_of bit_of
p3 = no_word_holds (255 ∷ 1 ∷ zeros 32) (zeros 34) refl zero_code refl

p4 : Holds (word generator_block generator_block 0 no_place)
unfolding bits_of bit_of
p4 = word_holds generator_block generator_block 0 no_place refl refl refl generator_code refl refl (lit≤ tt)

p4_read : Holds (wrong_check generator_block 0 no_place)
unfolding bits_of bit_of
p4_read = wrong_check_holds generator_block refl generator_code refl generator_check

-- the ones that are cleared and those that are left are the ones of the whole
ones_left : (row whole : List Bool) → length row ≡ length whole → ((p : ℕ) → get_or row p false ≡ true → get_or whole p false ≡ true)
    → distance row whole + ones row ≡ ones whole
ones_left [] [] l within = refl
ones_left [] (w ∷ whole) l within = absurd (omega arith)
ones_left (r ∷ row) [] l within = absurd (omega arith)
ones_left (true ∷ row) (false ∷ whole) l within = absurd (false≢true (within zero refl))
ones_left (true ∷ row) (true ∷ whole) l within = omega (arith, ones_left row whole (omega arith) (λ p. within (suc p)))
ones_left (false ∷ row) (true ∷ whole) l within = omega (arith, ones_left row whole (omega arith) (λ p. within (suc p)))
ones_left (false ∷ row) (false ∷ whole) l within = omega (arith, ones_left row whole (omega arith) (λ p. within (suc p)))

zero_bytes : row_of (zeros 34) ≡ no_place
unfolding bits_of bit_of
zero_bytes = refl

-- the generator with some ones cleared: its difference from the zero word is itself, and its ones are those of the 18 that are left
module _ (many : ℕ) (received : List ℕ) (c : Cleared many received) where
  from_zero : difference (row_of received) (row_of (zeros 34)) ≡ row_of received
  from_zero =
      let long : 272 ≡ length (row_of received) = sym (length_bits_of 8 received ∙ omega (arith, c.long)) in
      ap (difference (row_of received)) (zero_bytes ∙ ap (λ (n : ℕ). replicate n false) long) ∙ add_zeros (row_of received)

  left : many + ones (row_of received) ≡ 18
  left =
      ap (λ (n : ℕ). n + ones (row_of received)) (sym c.differs)
      ∙ ones_left (row_of received) (row_of generator_block) (length_bits_of 8 received ∙ ap (λ (n : ℕ). 8 * n) c.long ∙ sym (length_bits_of 8 generator_block)) c.within
      ∙ p4_generator.1

-- each one of the row is one of the whole, by one computed test
abbrev covers : (whole row : List Bool) → Bool
covers whole [] = true
covers [] (r ∷ row) = not r && covers [] row
covers (w ∷ whole) (r ∷ row) = (w || not r) && covers whole row

covered : (whole row : List Bool) → T (covers whole row) → (p : ℕ) → get_or row p false ≡ true → get_or whole p false ≡ true
covered whole [] t p e = absurd (false≢true e)
covered [] (true ∷ row) t p e = absurd t
covered [] (false ∷ row) t zero e = absurd (false≢true e)
covered [] (false ∷ row) t (suc p) e = covered [] row t p e
covered (true ∷ whole) (true ∷ row) t zero e = refl
covered (false ∷ whole) (true ∷ row) t zero e = absurd t
covered (w ∷ whole) (false ∷ row) t zero e = absurd (false≢true e)
covered (w ∷ whole) (r ∷ row) t (suc p) e = covered whole row (and_r (w || not r) (covers whole row) t) p e

cleared : (many : ℕ) (received : List ℕ) → length received ≡ 34 → distance (row_of received) (row_of generator_block) ≡ many
    → T (covers (row_of generator_block) (row_of received)) → Cleared many received
cleared many received long away t = record { long = long; differs = away; within = covered (row_of generator_block) (row_of received) t }

-- the generator's last bytes, which have eight of its ones, and nine
abbrev eight_left : List ℕ
eight_left = zeros 29 ++ (40 ∷ 128 ∷ 34 ∷ 32 ∷ 136 ∷ [])

abbrev nine_left : List ℕ
nine_left = zeros 28 ++ (128 ∷ 40 ∷ 128 ∷ 34 ∷ 32 ∷ 136 ∷ [])

p5 : Holds (cleared_word 10 (zeros 34) 8)
unfolding bits_of bit_of
p5 = (
  (eight_left, cleared 10 eight_left refl refl tt),
  λ received c. word_holds received (zeros 34) 8 (row_of received) c.long refl refl zero_code (from_zero 10 received c) (omega (arith, left 10 received c)) (lit≤ tt),
)

p5_nine : Holds (cleared_no_word 9)
unfolding bits_of bit_of
p5_nine = (
  (nine_left, cleared 9 nine_left refl refl tt),
  λ received c. no_word_holds received (zeros 34) c.long zero_code (ap ones (from_zero 9 received c) ∙ omega (arith, left 9 received c)),
)

p6 : Holds (header_holds 164 25 1)
unfolding fresh keeps_rule as_waiting check bits step_of
p6 twenty r long e = e ∙ simp long

p7 : Holds (header_refused 164 24 4)
unfolding check bits step_of
p7 c twenty r rule long e = e ∙ simp (rule, long)

p8 : Holds (header_refused 0 0 5)
unfolding step_of
p8 c twenty r rule long e = e ∙ simp (rule, long)

both : {s t : ToldNumber} → s ≡ t → (s.answer ≡ t.answer) × (s.number ≡ t.number)
both e = (ap (λ (t : ToldNumber). t.answer) e, ap (λ (t : ToldNumber). t.number) e)

p9_first : Holds (khz 1 87600)
p9_first r e = both e

p9_last : Holds (khz 204 107900)
p9_last r e = both e

p10 : Holds (reserved 205)
p10 = (λ r e. both e, λ r e. both e)

-- a number below 512 is written without EXT, a greater one with it; the rest is the size of the header
fills : (ext : Bool) (least most bytes blocks : ℕ) → ((n : ℕ) → least ≤ n → n ≤ most → leb 512 n ≡ ext) → most ≤ 16383 → bytes ≤ 255
    → blocks_for (size_of ext + bytes) ≡ blocks → Fills least most bytes blocks
fills ext least most bytes blocks form known few fit m di sc s before after r ri ci low high sc_fits long room w =
    let count : blocks_for (size_of (leb 512 m.number) + length s) ≡ blocks = (λ i. blocks_for (size_of (form m.number low high i) + long i)) ∙ fit in
    let fits = within_true m sc (length s) (omega arith) (omega arith) (omega arith) (omega arith) (omega arith) in
    let takes = message_written m di sc s (length before) fits (omega arith) in
    (w.answer ∙ ap (λ (t : ToldBlocks). t.answer) takes, w.blocks ∙ ap (λ (t : ToldBlocks). length t.blocks) takes ∙ message_count m di sc s ∙ count)

short_holds : (bytes blocks : ℕ) → bytes ≤ 255 → blocks_for (4 + bytes) ≡ blocks → Holds (short bytes blocks)
short_holds bytes blocks = fills false 0 511 bytes blocks (λ n l h. lt-leb 512 n (omega arith)) (lit≤ tt)

extended_holds : (bytes blocks : ℕ) → bytes ≤ 255 → blocks_for (5 + bytes) ≡ blocks → Holds (extended bytes blocks)
extended_holds bytes blocks = fills true 512 16383 bytes blocks (λ n l h. le-leb 512 n (omega arith)) (lit≤ tt)

-- the examples one after another, as the table has them
infixr 5 ◌and◌
◌and◌ : {A B : Type 0} → A → B → A × B
a and b = (a, b)

pub claim : AllHold table
claim =
    p1 and p2 and p3 and p4_generator and p4 and p4_read and p5 and p5_nine and p6 and p7 and p8
    and p9_first and p9_last and p10 and short_holds _ _ (lit≤ tt) refl and short_holds _ _ (lit≤ tt) refl and extended_holds _ _ (lit≤ tt) refl
    and short_holds _ _ (lit≤ tt) refl and extended_holds _ _ (lit≤ tt) refl and tt
