-- `gf2::divide`: the i leading places are the quotient so far, and dividing the rest goes on from place i. Assumes nothing.
use Rattle.gf2.specs.Poly.{divided}
use lib.ListN.{length, take, drop}
use Prim.Native.Nat.{◌-◌}
use mathlib.Core.List.{◌++◌}
use mathlib.Core.Path.{◌≡◌}
use Rattle.gf2.proofs.divide.Given as goal

abbrev pub invariant-loop-i : goal.invariant-loop-i
invariant-loop-i l = take l.i l.row ++ divided l.low (length l.initial.row - length l.low - l.i) (drop l.i l.row) ≡ divided l.low (length l.initial.row - length l.low) l.initial.row
