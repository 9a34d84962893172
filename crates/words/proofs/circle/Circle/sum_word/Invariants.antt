-- `words::circle::Circle::sum_word`: the positions below l are added in, in each of 64 sums, the rest is left. Assumes nothing.
use mathlib.Core.Path.{◌≡◌}
use Prim.Native.Nat.{ℕ, ◌+◌, ◌*◌, ◌<◌}
use lib.ListN.{drop}
use Rattle.gf2.specs.Poly.{◌⊕◌}
use Rattle.code.specs.Vote.{parity_over, check_positions}
use Rattle.words.specs.Bytes.{bit_of, bit_in}
use Rattle.words.proofs.circle.Circle.sum_word.Given as goal

abbrev pub invariant-loop-position : goal.invariant-loop-position
invariant-loop-position l =
    (k : ℕ) → k < 64 → bit_of l.odd k ⊕ parity_over (λ s. bit_in 64 l.self.words (64 * l.i + k + s)) (drop l.position-index check_positions) ≡ parity_over (λ s. bit_in 64 l.self.words (64 * l.i + k + s)) check_positions
