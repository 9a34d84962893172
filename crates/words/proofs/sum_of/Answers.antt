-- `words::sum_of`: five sums of words. Assumes nothing.
use mathlib.Core.Path.{refl, ◌∙◌}
use mathlib.Core.List.{[], ◌∷◌}
use Prim.Native.Nat.{ℕ, ◌^◌, ◌<◌}
use lib.Bits.{bit_xor, xor_lt}
use lib.ListN.{get_or}
use Rattle.gf2.proofs.Remainders.{length_add}
use Rattle.code.specs.Code.{difference}
use Rattle.words.specs.Words.{row_of_words}
use Rattle.words.proofs.Words.{lies_five, five_below, length_row}
use Rattle.words.proofs.Outcomes.{sum_lies}
use Rattle.words.proofs.sum_of.Goals as goal

pub returns : goal.returns
returns c =
    let xs = c.args.row.now in
    let ys = c.args.changed.now in
    let word : ℕ → ℕ = λ i. bit_xor (get_or xs i 0) (get_or ys i 0) in
    let small : (i : ℕ) → word i < 2 ^ 64 = λ i. xor_lt 64 (get_or xs i 0) (get_or ys i 0) (c.requires.0.below i) (c.requires.1.below i) in
    lies_five (word 0 ∷ word 1 ∷ word 2 ∷ word 3 ∷ word 4 ∷ []) (difference (row_of_words xs) (row_of_words ys)) refl
    (five_below (word 0) (word 1) (word 2) (word 3) (word 4) (small 0) (small 1) (small 2) (small 3) (small 4))
    (length_add (row_of_words xs) (row_of_words ys) ∙ length_row ys c.requires.1.five) (sum_lies xs ys c.requires.0 c.requires.1)
