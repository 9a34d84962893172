-- `intake::take_piece`: the piece goes behind the bytes before it. Assumes nothing.
use Rattle.std.proofs.Common.{arith, rules}
use Rattle.answers.proofs.Bytes.{bytes_each}
use Rattle.logs.proofs.Reached.{reached_next}
use Rattle.intake.proofs.take_piece.Goals as goal

pub returns : goal.returns
returns c =
    let known = c.type_inv.piece in
    reached_next _ _ c.feed.result (search rules) (bytes_each c.args.piece.now (λ k. omega (arith, known k))) c.feed.ensures
