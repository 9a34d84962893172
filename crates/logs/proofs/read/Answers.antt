use Rattle.std.proofs.Common.{ap, ◌∙◌}
use Rattle.logs.specs.Reader.{is_reader}
use Rattle.logs.proofs.Runs.{fresh_kept}
use Rattle.logs.proofs.read.Goals as goal

pub invariant_of-machine : goal.invariant_of-machine
invariant_of-machine c = record { ruled = ap is_reader c.start.ensures ∙ fresh_kept.0 }
