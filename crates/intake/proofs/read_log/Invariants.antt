use Rattle.logs.specs.Pieces.{Reached}
use Rattle.intake.proofs.read_log.Given as goal

-- pieces lead to the reader
abbrev pub invariant-loop : goal.invariant-loop
invariant-loop g l = Reached l.reader
