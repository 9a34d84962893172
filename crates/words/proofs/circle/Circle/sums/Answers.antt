-- `words::circle::Circle::sums`: five words of sums. Assumes nothing.
use Rattle.words.proofs.Rounds.{sums_lie}
use Rattle.words.proofs.circle.Circle.sums.Goals as goal

pub returns : goal.returns
returns c =
    λ bits twice. sums_lie bits c.sum_word.result c.sum_word-2.result c.sum_word-3.result c.sum_word-4.result c.sum_word-5.result
    (c.sum_word.ensures bits twice) (c.sum_word-2.ensures bits twice) (c.sum_word-3.ensures bits twice) (c.sum_word-4.ensures bits twice) (c.sum_word-5.ensures bits twice)
