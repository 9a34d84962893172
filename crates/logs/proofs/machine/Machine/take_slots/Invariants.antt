-- `logs::machine::Machine::take_slots`: the counts so far and what is left of the piece lead where all of it does. Assumes nothing.
use Rattle.std.proofs.Common.{◌≡◌, ◌≤◌, true, length}
use Rattle.logs.specs.declared.Phase.TheVariants.{Open}
use Rattle.logs.specs.Reader.{between, is_before, run}
use Rattle.logs.proofs.machine.Machine.take_slots.Given as goal

abbrev pub invariant-loop-outcome : goal.invariant-loop-outcome
invariant-loop-outcome l =
    (is_before l.counts ≡ true) × (run (between Open l.initial.counts) l.initial.rest ≡ run (between Open l.counts) l.rest) × (length l.rest ≤ length l.initial.rest)

abbrev pub decreases-loop-outcome : goal.decreases-loop-outcome
decreases-loop-outcome l = length l.rest
