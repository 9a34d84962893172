-- `frame::tiles::turn_round`: the tiles before t are turned round. Assumes nothing.
use mathlib.Core.Path.{◌≡◌}
use lib.ListN.{length}
use Rattle.frame.proofs.TiledFrames.{Turning}
use Rattle.frame.proofs.tiles.turn_round.Given as goal

abbrev pub invariant-loop-t : goal.invariant-loop-t
invariant-loop-t l = (length l.turned ≡ 9248) × Turning l.frame l.turned l.t
