-- `words::votes::Planes::with_two`: a full adder and three half adders in each place. Assumes nothing.
use Rattle.words.proofs.Counts.{counted_two}
use Rattle.words.proofs.votes.Planes.with_two.Goals as goal

pub returns : goal.returns
returns c = λ k h. counted_two _ _ _ k h
