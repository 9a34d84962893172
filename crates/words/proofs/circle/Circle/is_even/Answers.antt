-- `words::circle::Circle::is_even`: two words of sums are zero. Assumes nothing.
use native.Mathlib.Omega.{arith}
use Rattle.words.proofs.Rounds.{even_tested}
use Rattle.words.proofs.circle.Circle.is_even.Goals as goal

pub returns : goal.returns
returns c =
    λ bits long twice. even_tested bits c.sum_word.result c.sum_word-2.result long (omega (arith, c.sum_word.type_inv)) (omega (arith, c.sum_word-2.type_inv))
    (c.sum_word.ensures bits twice) (c.sum_word-2.ensures bits twice)
