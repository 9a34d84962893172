use Rattle.header.proofs.Sums.{check_turn}
use Rattle.header.proofs.Bits.{onto}
use Rattle.header.specs.Header.{bits, six, check}
use Rattle.gf2.specs.Poly.{check_of}
use Rattle.gf2.proofs.Remainders.{length_check}
use lib.ListN.{drop_of_length-le}
use native.Mathlib.Omega.{arith}
use mathlib.Core.Path.{refl, sym, ap, ◌∙◌}
use Rattle.header.proofs.check.Goals as goal

pub loop-mask-init : goal.loop-mask-init
unfolding check
loop-mask-init c = (omega arith, refl)

pub loop-mask-preserved : goal.loop-mask-preserved
loop-mask-preserved c =
    let l = c.loop-mask in
    check_turn c.args.fields (omega arith) _ l.bits l.mask-index (omega arith) l.invariant.0 l.invariant.1 c.parity.result c.parity.ensures.0

pub returns : goal.returns
returns c =
    let l = c.loop-mask in
    let row = check_of six (bits 64 c.args.fields) in
    ap (onto l.bits) (sym (drop_of_length-le row {i = l.mask-index} (omega (arith, length_check six (bits 64 c.args.fields))))) ∙ l.invariant.1
