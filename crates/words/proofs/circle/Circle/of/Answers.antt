-- `words::circle::Circle::of`: five words as they are, the seam, and four parts. Assumes nothing.
use Rattle.words.proofs.Rounds.{laid}
use Rattle.words.proofs.circle.Circle.of.Goals as goal

pub returns : goal.returns
returns c =
    let row = c.args.row.now in
    λ bits l lies. laid row bits l lies c.part.result c.part-2.result c.part-3.result c.part-4.result
    c.part.ensures c.part-2.ensures c.part-3.ensures c.part-4.ensures
