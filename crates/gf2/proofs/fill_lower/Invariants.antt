-- `gf2::fill_lower`: the places below this one hold their coefficients, the rest is as it was. Assumes nothing.
use Rattle.gf2.specs.Poly.{lower}
use lib.ListN.{length, take, drop}
use mathlib.Core.List.{◌++◌}
use mathlib.Core.Path.{◌≡◌}
use Rattle.gf2.proofs.fill_lower.Given as goal

abbrev pub invariant-loop-place : goal.invariant-loop-place
invariant-loop-place l =
    l.row ≡ take l.place (lower (length l.initial.row) l.powers) ++ drop l.place l.initial.row
