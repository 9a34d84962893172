-- `block::check::check_of`: each quotient is taken of what the one before it left. Assumes nothing.
use Rattle.block.proofs.Quotients.{check_made}
use mathlib.Core.Path.{refl}
use borrow.Author.Rules.{rules}
use Rattle.block.proofs.check.check_of.Goals as goal

pub returns : goal.returns
returns c =
    let made = check_made c.args.row.now c.requires c.first_quotient-first.result c.second_quotient-second.result c.last_quotient-last.result in
    (search rules, λ k l. made _ c.first_quotient-first.ensures c.second_quotient-second.ensures refl c.last_quotient-last.ensures k)
