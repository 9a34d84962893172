use Rattle.std.proofs.Common.{ℕ, List, drop}
use Rattle.summary.specs.Building.{Grows, tabbed}
use Rattle.summary.specs.declared.building.Text.{Text}
use Rattle.summary.proofs.Accepted.put_row.Given as goal

abbrev pub invariant-loop-number : goal.invariant-loop-number
invariant-loop-number l =
    (rest : List ℕ) (v : Text) → Grows l.text (tabbed (drop l.number-index l.number-items) rest) v → Grows l.initial.text (tabbed l.number-items rest) v
