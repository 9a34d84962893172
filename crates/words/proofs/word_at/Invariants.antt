-- `words::word_at`: the bytes before j are in their places, and nothing is behind them. Assumes nothing.
use mathlib.Core.Path.{◌≡◌}
use mathlib.Core.Bool.{false}
use Prim.Native.Nat.{ℕ, ◌+◌, ◌*◌, ◌/◌, ◌%◌, ◌<◌, ◌≤◌}
use lib.ListN.{get_or}
use Rattle.words.specs.Bytes.{bit_of}
use Rattle.words.proofs.word_at.Given as goal

abbrev pub invariant-loop-j : goal.invariant-loop-j
invariant-loop-j l = ((k : ℕ) → k < 8 * l.j → bit_of l.word k ≡ bit_of (get_or l.bytes (l.at + k / 8) 0) (k % 8)) × ((k : ℕ) → 8 * l.j ≤ k → bit_of l.word k ≡ false)
