-- `words::votes::turned_word`: of the sums that meet in each of 64 positions the first one and these pairs are counted, the rest is left. Assumes nothing.
use mathlib.Core.Path.{◌≡◌}
use Prim.Native.Nat.{ℕ, ◌+◌, ◌-◌, ◌*◌, ◌<◌, ◌≤◌}
use lib.ListN.{drop}
use Rattle.gf2.specs.Poly.{bit}
use Rattle.code.specs.Vote.{sum_over, check_positions}
use Rattle.words.specs.Bytes.{bit_in}
use Rattle.words.specs.Circle.{counted}
use Rattle.words.proofs.votes.turned_word.Given as goal

abbrev pub invariant-loop-pair : goal.invariant-loop-pair
invariant-loop-pair l =
    ((k : ℕ) → k < 64 → counted l.counts k ≤ 2 * l.pair + 1)
    × ((k : ℕ) → k < 64 → counted l.counts k + sum_over (λ s. bit (bit_in 64 l.circle.words (64 * l.i + k + 273 - s))) (drop (2 * l.pair + 1) check_positions) ≡ sum_over (λ s. bit (bit_in 64 l.circle.words (64 * l.i + k + 273 - s))) check_positions)
