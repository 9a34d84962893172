use native.Mathlib.Omega.{arith}
use Rattle.channel.proofs.Rows.{header_turn}
use Rattle.channel.proofs.header_from.Goals as goal

pub loop-byte-preserved : goal.loop-byte-preserved
loop-byte-preserved c =
    let l = c.loop-byte in
    rw c.from.ensures (header_turn c.args.bytes.now _ l.header l.byte-index (omega arith) (omega (arith, c.type_inv.bytes l.byte-index)) l.invariant.0 l.invariant.1)
