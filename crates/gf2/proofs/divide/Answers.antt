use borrow.Author.Rules.{part_to_end}
use Rattle.gf2.proofs.Lists.{tail_back}
use Rattle.gf2.proofs.Turns.{zero_turn, one_turn}
use Rattle.gf2.specs.Poly.{add}
use lib.ListN.{take}
use native.Mathlib.Omega.{arith}
use Prim.Native.Nat.{◌+◌}
use mathlib.Core.List.{◌++◌}
use mathlib.Core.Path.{◌∙◌, ap}
use Rattle.gf2.proofs.divide.Goals.{then-row-i, else-row-i}
use Rattle.gf2.proofs.divide.Goals as goal

pub loop-i-preserved : goal.loop-i-preserved
loop-i-preserved c =
    let low = c.args.low.now in
    let row = c.loop-i.row in
    let i = c.loop-i.i in
    elim c.if-row-i.branch [
      | then-row-i w ↦ one_turn low row _ i _ (omega arith) (omega arith) c.loop-i.invariant c.if-row-i.row
          (w.row-is ∙ tail_back row w.add_in.new.row (i + 1) ∙ ap (λ xs. take (i + 1) row ++ xs) (w.add_in.ensures ∙ ap (add low) (part_to_end row (i + 1)))) w.if-row-i.true
      | else-row-i w ↦ zero_turn low row _ i _ (omega arith) (omega arith) c.loop-i.invariant c.if-row-i.row w.row-is w.if-row-i.false
    ]
