-- `logs::machine::Machine::take`: the reader so far and what is left of the piece lead where all of it does. Assumes nothing.
use Rattle.std.proofs.Common.{◌≡◌, length}
use Rattle.logs.specs.Reader.{run}
use Rattle.logs.proofs.machine.Machine.take.Given as goal

abbrev pub invariant-loop-rest : goal.invariant-loop-rest
invariant-loop-rest l = run l.initial.self.reader l.initial.rest ≡ run l.self.reader l.rest

abbrev pub decreases-loop-rest : goal.decreases-loop-rest
decreases-loop-rest l = length l.rest
