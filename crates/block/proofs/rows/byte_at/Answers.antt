use Rattle.block.proofs.Turns.{byte_turn, byte_small}
use Rattle.gf2.proofs.Bits.{bit_lt, number_of_bit}
use mathlib.Core.Bool.{false}
use lib.ListN.{get_or, drop}
use native.Mathlib.Omega.{arith}
use Prim.Native.Nat.{◌+◌, ◌-◌}
use mathlib.Core.Path.{◌∙◌}
use Rattle.block.proofs.rows.byte_at.Goals as goal

pub overflow_mul-byte : goal.overflow_mul-byte
overflow_mul-byte c =
    omega (arith, c.loop-j.invariant, byte_small c.loop-j.j (drop (c.args.at + c.loop-j.j) c.args.row.now) (omega arith))

pub overflow_add-byte : goal.overflow_add-byte
overflow_add-byte c =
    omega (
      arith,
      c.loop-j.invariant,
      byte_small c.loop-j.j (drop (c.args.at + c.loop-j.j) c.args.row.now) (omega arith),
      c.from.ensures ∙ number_of_bit _,
      bit_lt (get_or c.args.row.now (c.args.at + (c.loop-j.j - 1)) false),
    )

pub loop-j-preserved : goal.loop-j-preserved
loop-j-preserved c =
    let a = c.args in
    byte_turn a.row.now a.at c.loop-j.j c.from.result c.loop-j.byte (omega arith) (omega arith) (omega arith) (c.from.ensures ∙ number_of_bit _) c.loop-j.invariant
