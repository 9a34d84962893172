-- `words::fill_bytes`: the bytes before k are put. Assumes nothing.
use mathlib.Core.Path.{◌≡◌}
use Prim.Native.Nat.{ℕ, ◌*◌, ◌<◌}
use Rattle.words.specs.Bytes.{bit_in}
use Rattle.words.proofs.fill_bytes.Given as goal

abbrev pub invariant-loop-k : goal.invariant-loop-k
invariant-loop-k l = (p : ℕ) → p < 8 * l.k → bit_in 8 l.out p ≡ bit_in 64 l.row p
