use native.Mathlib.Omega.{arith}
use Prim.Native.Nat.{◌^◌, ◌<◌}
use lib.ListN.{get_or}
use Rattle.words.proofs.Bytes.{bit_of_zero, byte_more, byte_none}
use Rattle.frame.proofs.TiledFrames.{tile_byte, taken}
use Rattle.frame.proofs.tiles.tile_at.Goals as goal

pub loop-j-init : goal.loop-j-init
loop-j-init c = (λ k h. absurd (omega arith), λ k h. bit_of_zero k)

pub loop-j-preserved : goal.loop-j-preserved
loop-j-preserved c =
    let h = c.loop-j in
    let a = c.args in
    let byte = tile_byte a.down a.along in
    let x = c.from.result in
    let small : x < 2 ^ 8 = omega arith in (
      byte_more (λ i. get_or a.frame.now (byte i) 0) h.j h.tile x (omega arith) c.from.ensures small h.invariant.0 h.invariant.1,
      byte_none (λ i. get_or a.frame.now (byte i) 0) h.j h.tile x (omega arith) c.from.ensures small h.invariant.0 h.invariant.1,
    )

pub returns : goal.returns
returns c =
    let h = c.loop-j in
    let a = c.args in
    taken a.frame.now a.down a.along h.tile (omega arith) (λ k l. h.invariant.0 k (omega arith))
