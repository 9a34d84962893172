-- `words::votes::Planes::nine`: the threshold. Assumes nothing.
use Rattle.words.proofs.Counts.{counted_nine}
use Rattle.words.proofs.votes.Planes.nine.Goals as goal

pub returns : goal.returns
returns c = λ k. counted_nine _ k
