-- `Series::put`: what is written and what is left are the whole. Assumes nothing.
use Prim.Native.Nat.{◌-◌, ◌≤◌}
use mathlib.Core.List.{◌++◌}
use mathlib.Core.Path.{◌≡◌}
use lib.Dec.{eqb}
use lib.ListN.{length, take, drop}
use Rattle.writer.specs.Group.{messages_of, blocks_of, series_blocks}
use Rattle.writer.specs.Message.{flat}
use Rattle.writer.proofs.Series.put.Given as goal

abbrev pub invariant-loop-i : goal.invariant-loop-i
invariant-loop-i l =
    (l.at ≤ length l.output) × (l.sc ≤ 15) × (l.ci ≤ 3)
    × (flat (series_blocks l.self l.messages l.data) ≡ take l.at l.output ++ flat (blocks_of l.self.di l.sc (messages_of (l.messages - l.i) (eqb l.i 0) l.self.number l.self.ri l.ci l.rest)))
    × (drop l.at l.output ≡ drop l.at l.initial.output)
