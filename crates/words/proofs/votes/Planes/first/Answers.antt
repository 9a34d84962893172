-- `words::votes::Planes::first`: one plane. Assumes nothing.
use Rattle.words.proofs.Counts.{counted_first}
use Rattle.words.proofs.votes.Planes.first.Goals as goal

pub returns : goal.returns
returns c = λ k. counted_first c.args.bits k
