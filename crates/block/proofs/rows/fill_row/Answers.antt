use Rattle.words.proofs.Bytes.{length_bits_of, get_or_bits_of}
use Rattle.words.specs.Bytes.{bit_of, row_of}
use Rattle.gf2.proofs.Lists.{front_turn}
use lib.Seq.{take_all}
use lib.ListN.{drop}
use native.Mathlib.Omega.{arith}
use Prim.Native.Nat.{◌*◌}
use lib.ListN.{length}
use mathlib.Core.List.{◌++◌}
use mathlib.Core.Bool.{false}
use mathlib.Core.Path.{◌≡◌, sym, ◌∙◌}
use Rattle.block.proofs.rows.fill_row.Goals as goal

pub loop-p-preserved : goal.loop-p-preserved
unfolding bit_of
loop-p-preserved c =
    let a = c.args in
    front_turn (row_of a.bytes.now) a.row.now c.loop-p.row c.loop-p.p _ false (omega (arith, length_bits_of 8 a.bytes.now)) (omega arith)
    (sym (get_or_bits_of 8 a.bytes.now c.loop-p.p (omega arith))) c.loop-p.invariant

pub returns : goal.returns
returns c =
    let a = c.args in
    let done : c.loop-p.p ≡ 8 * length a.bytes.now = omega arith in
    c.loop-p.invariant ∙ (λ i. take_all c.loop-p.p (row_of a.bytes.now) (omega (arith, length_bits_of 8 a.bytes.now)) i ++ drop (done i) a.row.now)
