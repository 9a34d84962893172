-- `words::kept`: five words, the last cut off. Assumes nothing.
use borrow.Author.Rules.{rules}
use native.Mathlib.Omega.{arith}
use mathlib.Core.Path.{refl}
use mathlib.Core.List.{[], ◌∷◌}
use Prim.Native.Nat.{ℕ, ◌%◌, ◌^◌, ◌<◌}
use mir.Syntax.{w64}
use mir.Val.{Fits}
use lib.ListN.{get_or}
use Rattle.words.specs.Words.{row_of_words}
use Rattle.words.proofs.Words.{lies_five, five_below, length_row}
use Rattle.words.proofs.Outcomes.{given_lies}
use Rattle.words.proofs.kept.Goals as goal

pub returns : goal.returns
returns c =
    let ws = c.args.words.now in
    let fits : (i : ℕ) → Fits w64 (get_or ws i 0) = λ i. search rules in
    let small : (i : ℕ) → get_or ws i 0 < 2 ^ 64 = λ i. omega (arith, fits i) in
    let last : get_or ws 4 0 % 2 ^ 16 < 2 ^ 64 = omega arith in
    lies_five (get_or ws 0 0 ∷ get_or ws 1 0 ∷ get_or ws 2 0 ∷ get_or ws 3 0 ∷ get_or ws 4 0 % 2 ^ 16 ∷ []) (row_of_words ws) refl
    (five_below (get_or ws 0 0) (get_or ws 1 0) (get_or ws 2 0) (get_or ws 3 0) (get_or ws 4 0 % 2 ^ 16) (small 0) (small 1) (small 2) (small 3) last) (length_row ws c.told-words) (given_lies ws c.told-words)
