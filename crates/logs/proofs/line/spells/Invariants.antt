-- `logs::line::spells`: the whole is the number where what is left is what is left of it. Assumes nothing.
use Rattle.std.proofs.Common.{◌≡◌, ◌<◌, ◌^◌}
use Rattle.text.specs.Fields.{same_as}
use Rattle.logs.specs.Decimal.{decimal}
use Rattle.logs.proofs.line.spells.Given as goal

abbrev pub invariant-loop-number : goal.invariant-loop-number
invariant-loop-number l = (l.number < 10 ^ 20) × (same_as l.fn.text (decimal l.fn.number) ≡ same_as l.text (decimal l.number))

abbrev pub decreases-loop-number : goal.decreases-loop-number
decreases-loop-number l = l.number
