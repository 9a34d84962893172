use Rattle.frame.proofs.TiledFrames.{turning_turn}
use Rattle.frame.proofs.tiles.turn_round.Goals as goal

pub loop-t-preserved : goal.loop-t-preserved
loop-t-preserved c =
    let h = c.loop-t in
    let put = c.put_tile in
    (put.array_long, turning_turn c.args.frame.now h.turned put.new.frame h.t _ _ h.invariant.1 c.tile_at.ensures c.turned_tile-tile.ensures put.ensures)
