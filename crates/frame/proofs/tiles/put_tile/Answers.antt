use native.Mathlib.Omega.{arith}
use mathlib.Core.Path.{◌≡◌, subst}
use Rattle.frame.proofs.TiledFrames.{Putting, putting_done}
use Rattle.frame.proofs.tiles.put_tile.Goals as goal

pub returns : goal.returns
returns c =
    let h = c.loop-j in
    let a = c.args in
    let all : h.j ≡ 8 = omega arith in
    putting_done a.down a.along a.tile a.frame.now h.frame (omega arith)
    (subst (Putting a.down a.along a.tile a.frame.now h.frame) all h.invariant.1)
