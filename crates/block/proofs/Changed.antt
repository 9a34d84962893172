-- THE ROW OF CHANGED PLACES, over every outcome that the promises of the corrector and of the block reader allow. Assumes nothing.
use mathlib.Core.Path.{◌≡◌, sym, ap, ◌∙◌, subst}
use mathlib.Core.Bool.{Bool}
use mathlib.Core.List.{List}
use mathlib.Core.Logic.{◌⊎◌, inl, inr, ⊎_elim}
use Prim.Native.Nat.{ℕ, ◌≤◌, ◌<◌, ◌^◌}
use native.Mathlib.Omega.{arith}
use lib.ListN.{length, get_or, take}
use Rattle.answers.specs.Numbers.{accepted, refused}
use Rattle.answers.proofs.Determined.{refused_accepted}
use Rattle.gf2.proofs.Remainders.{add_twice}
use Rattle.code.specs.Code.{CodeWord, difference, ones, most_corrected}
use Rattle.words.specs.Bytes.{row_of}
use Rattle.words.specs.Words.{FiveWords, row_of_words, zero_words}
use Rattle.words.specs.Near.{Near}
use Rattle.block.specs.Told.{ToldCorrected}
use Rattle.block.specs.Corrector.{Corrects}
use Rattle.block.specs.Blocks.{CheckRight, Reads}
use Rattle.block.proofs.Determined.{block_once}
use Rattle.words.proofs.Words.{zero_row, zero_five, top_small}

-- every outcome of the two
module _ (received before after : List ℕ) (r : ToldCorrected) where
  -- what it says of the changed places: there are none, or they are those of a code word
  either : Corrects received before after r ⊎ Reads received before after r → ((r.count ≡ 0) × (r.changed ≡ zero_words)) ⊎ ((word : List Bool) × Near (row_of received) word r.count r.changed)
  either (inl (inl u)) = inl (u.counts, u.places)
  either (inl (inr (inl u))) = inl (u.counts, u.places)
  either (inl (inr (inr u))) = inr (u.word, u.found)
  either (inr (inl u)) = inl (u.counts, u.places)
  either (inr (inr (inl u))) = inl (u.counts, u.places)
  either (inr (inr (inr (inl u)))) = inr (u.word, u.found)
  either (inr (inr (inr (inr u)))) = inr (u.word, u.found)

  -- THE COUNT IS THE NUMBER OF ONES IN THE ROW
  pub count_ones : Corrects received before after r ⊎ Reads received before after r → r.count ≡ ones (row_of_words r.changed)
  count_ones t = ⊎_elim (λ u. u.0 ∙ ap ones (sym (ap row_of_words u.1 ∙ zero_row))) (λ u. u.1.counts) (either t)

  -- THE ROW HAS AT MOST EIGHT ONES
  pub few_ones : Corrects received before after r ⊎ Reads received before after r → ones (row_of_words r.changed) ≤ most_corrected
  few_ones t = ⊎_elim (λ u. omega (arith, u.0, count_ones t)) (λ u. omega (arith, u.1.near, ap ones u.1.places)) (either t)

  -- THE ROW'S TOP BITS ARE ZERO
  pub top_zero : Corrects received before after r ⊎ Reads received before after r → FiveWords r.changed × (get_or r.changed 4 0 < 2 ^ 16)
  top_zero t = (five, top_small r.changed five)
    where
      five : FiveWords r.changed
      five = ⊎_elim (λ u. subst FiveWords (sym u.1) zero_five) (λ u. u.1.words) (either t)

  -- TURNING THE ROW'S PLACES in what was received gives the code word: the corrector's output
  turned_word : {word : List Bool} → Near (row_of received) word r.count r.changed → difference (row_of received) (row_of_words r.changed) ≡ word
  turned_word {word} n = ap (difference (row_of received)) n.places ∙ add_twice (row_of received) word

  pub turned_output : Corrects received before after r → r.answer ≡ accepted → difference (row_of received) (row_of_words r.changed) ≡ row_of after
  turned_output (inl u) a = absurd (refused_accepted 1 (sym u.answers ∙ a))
  turned_output (inr (inl u)) a = absurd (refused_accepted 2 (sym u.answers ∙ a))
  turned_output (inr (inr u)) a = turned_word u.found ∙ sym u.written

  -- and of the block reader the word whose information it gives, or whose check bits are wrong
  pub turned_information : Reads received before after r → r.answer ≡ accepted
      → CodeWord (difference (row_of received) (row_of_words r.changed)) × (take 176 (difference (row_of received) (row_of_words r.changed)) ≡ row_of after)
  turned_information (inl u) a = absurd (refused_accepted 1 (sym u.answers ∙ a))
  turned_information (inr (inl u)) a = absurd (refused_accepted 2 (sym u.answers ∙ a))
  turned_information (inr (inr (inl u))) a = absurd (refused_accepted 3 (sym u.answers ∙ a))
  turned_information (inr (inr (inr u))) a = (subst CodeWord (sym (turned_word u.found)) u.found.code, ap (take 176) (turned_word u.found) ∙ sym u.given)

  pub turned_refused : Reads received before after r → r.answer ≡ refused 3
      → CodeWord (difference (row_of received) (row_of_words r.changed)) × (CheckRight (difference (row_of received) (row_of_words r.changed)) → ⊥)
  turned_refused (inl u) a = let e : refused 1 ≡ refused 3 = sym u.answers ∙ a in let n : ◌≡◌ {A = ℕ} 1 3 = cc in absurd (omega arith)
  turned_refused (inr (inl u)) a = let e : refused 2 ≡ refused 3 = sym u.answers ∙ a in let n : ◌≡◌ {A = ℕ} 2 3 = cc in absurd (omega arith)
  turned_refused (inr (inr (inl u))) a = (subst CodeWord (sym (turned_word u.found)) u.found.code, λ w. u.wrong (subst CheckRight (turned_word u.found) w))
  turned_refused (inr (inr (inr u))) a = absurd (refused_accepted 3 (sym a ∙ u.answers))

-- THE BLOCK READER PASSES ON the corrector's count and row
module _ (received room word place information : List ℕ) (r s : ToldCorrected) (l : length room ≡ 34) (m : length place ≡ 22) where
  pub passed_on : Corrects received room word r → Reads received place information s → (r.count ≡ s.count) × (r.changed ≡ s.changed)
  passed_on (inl u) (inl v) = (u.counts ∙ sym v.counts, u.places ∙ sym v.places)
  passed_on (inl u) (inr (inl v)) = absurd (u.wrong (record { input = v.sized.input; output = l }))
  passed_on (inl u) (inr (inr (inl v))) = absurd (u.wrong (record { input = v.sized.input; output = l }))
  passed_on (inl u) (inr (inr (inr v))) = absurd (u.wrong (record { input = v.sized.input; output = l }))
  passed_on (inr (inl u)) (inl v) = absurd (v.wrong (record { input = u.sized.input; output = m }))
  passed_on (inr (inl u)) (inr (inl v)) = (u.counts ∙ sym v.counts, u.places ∙ sym v.places)
  passed_on (inr (inl u)) (inr (inr (inl v))) = absurd (u.none v.word v.found.code v.found.near)
  passed_on (inr (inl u)) (inr (inr (inr v))) = absurd (u.none v.word v.found.code v.found.near)
  passed_on (inr (inr u)) (inl v) = absurd (v.wrong (record { input = u.sized.input; output = m }))
  passed_on (inr (inr u)) (inr (inl v)) = absurd (v.none u.word u.found.code u.found.near)
  passed_on (inr (inr u)) (inr (inr (inl v))) = (block_once received u.sized.input u.found v.found).1
  passed_on (inr (inr u)) (inr (inr (inr v))) = (block_once received u.sized.input u.found v.found).1
