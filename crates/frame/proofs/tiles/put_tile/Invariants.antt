-- `frame::tiles::put_tile`: the bytes of the rows before j are put. Assumes nothing.
use mathlib.Core.Path.{◌≡◌}
use lib.ListN.{length}
use Rattle.frame.proofs.TiledFrames.{Putting}
use Rattle.frame.proofs.tiles.put_tile.Given as goal

abbrev pub invariant-loop-j : goal.invariant-loop-j
invariant-loop-j l = (length l.frame ≡ length l.initial.frame) × Putting l.down l.along l.tile l.initial.frame l.frame l.j
