-- `frame::correct_rows`: the rows before n are through the stage, the others as they were. Assumes nothing.
use mathlib.Core.Path.{◌≡◌}
use Prim.Native.Nat.{ℕ, ◌≤◌}
use lib.ListN.{length}
use Rattle.frame.specs.Frames.{frame_of, row_in, Stage}
use Rattle.frame.proofs.correct_rows.Given as goal

abbrev pub invariant-loop-n : goal.invariant-loop-n
invariant-loop-n l = (length l.frame ≡ 9248) × (l.refused ≤ l.n) × Stage (frame_of l.initial.frame) (frame_of l.frame) l.n l.refused × ((m : ℕ) → l.n ≤ m → row_in (frame_of l.frame) m ≡ row_in (frame_of l.initial.frame) m)
