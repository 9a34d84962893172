-- `block::check::holds`: the number of the 14 places is that of the check. Assumes nothing.
use Rattle.block.proofs.Quotients.{check_right}
use borrow.Author.Tests.{eqb-true, eq-eqb}
use Rattle.block.proofs.check.holds.Goals as goal

pub returns : goal.returns
returns c =
    let o = c.check_of in
    let right = check_right c.args.row.now c.requires o.result o.ensures.0 o.ensures.1 in
    (λ t. right.0 (eqb-true _ _ t), λ r. eq-eqb _ _ (right.1 r))
