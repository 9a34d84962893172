use Prim.Native.Nat.{◌+◌, ◌-◌, ◌*◌, ◌/◌}
use mathlib.Core.Path.{◌≡◌}
use native.Mathlib.Omega.{arith}
use lib.Dec.{eqb}
use lib.ListN.{length, take, drop}
use lib.Seq.{paste}
use Rattle.writer.specs.Message.{block_of}
use Rattle.writer.proofs.Laws.{last_of}
use Rattle.writer.proofs.Writing.{blocks_turn}
use Rattle.writer.proofs.block.put_blocks.Goals as goal

pub loop-i-preserved : goal.loop-i-preserved
loop-i-preserved c =
    let l = c.loop-i in
    let a = c.args in
    let n = length a.bytes.now / 20 in
    let p : 20 * l.i + 20 - 20 * l.i ≡ 20 = omega arith in
    let e : c.put.new.output ≡ paste l.output (22 * l.i) (block_of a.di (eqb (n - l.i - 1) 0) l.next (take 20 (drop (20 * l.i) a.bytes.now))) 22 =
    rw (p, last_of l.i n (omega arith)) at c.put.ensures in
    let t = blocks_turn _ l.output a.output.now a.bytes.now (drop (22 * n) a.output.now) (20 * l.i) (22 * l.i) l.next a.di (omega arith) (omega arith) l.invariant.2 (n - l.i) (omega arith) l.invariant.1 in
    let q : n - (l.i + 1) ≡ n - l.i - 1 = omega arith in
    let r : 22 * (l.i + 1) ≡ 22 * l.i + 22 = omega arith in
    let s : 20 * (l.i + 1) ≡ 20 * l.i + 20 = omega arith in
    rw (q, r, s, e) (omega arith, t.0, t.1)
