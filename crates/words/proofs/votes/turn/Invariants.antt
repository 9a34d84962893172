-- `words::votes::turn`: the words before i are stored and their ones counted, the rest is left. Assumes nothing.
use mathlib.Core.Path.{◌≡◌}
use mathlib.Core.Bool.{Bool, false}
use mathlib.Core.List.{List}
use Prim.Native.Nat.{ℕ, ◌+◌, ◌*◌, ◌^◌, ◌<◌, ◌≤◌}
use lib.ListN.{length, get_or, drop}
use Rattle.code.specs.Code.{ones}
use Rattle.code.specs.Vote.{bit_at}
use Rattle.words.specs.Bytes.{bit_in}
use Rattle.words.specs.Circle.{Round, turned}
use Rattle.words.proofs.votes.turn.Given as goal

abbrev pub invariant-loop-i : goal.invariant-loop-i
invariant-loop-i l =
    (l.count ≤ 8) × (length l.changed ≡ 5) × ((j : ℕ) → get_or l.changed j 0 < 2 ^ 64) × ((p : ℕ) → 64 * l.i ≤ p → bit_in 64 l.changed p ≡ false)
    × ((sums : List Bool) → Round l.circle.words sums → (l.count + ones (drop (64 * l.i) (turned sums)) ≡ ones (turned sums)) × ((p : ℕ) → p < 64 * l.i → bit_in 64 l.changed p ≡ bit_at (turned sums) p))
