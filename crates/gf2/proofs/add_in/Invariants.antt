-- `gf2::add_in`: the places below j are added in already, those from j on are left. Assumes nothing.
use Rattle.gf2.specs.Poly.{add}
use lib.ListN.{take, drop}
use mathlib.Core.List.{◌++◌}
use mathlib.Core.Path.{◌≡◌}
use Rattle.gf2.proofs.add_in.Given as goal

abbrev pub invariant-loop-j : goal.invariant-loop-j
invariant-loop-j l = take l.j l.row ++ add (drop l.j l.low) (drop l.j l.row) ≡ add l.low l.initial.row
