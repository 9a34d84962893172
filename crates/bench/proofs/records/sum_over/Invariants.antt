-- `bench::records::sum_over`: there is a record with the index, and a place. Assumes nothing.
use Rattle.std.proofs.Common.{◌<◌}
use Rattle.bench.proofs.records.sum_over.Given as goal

abbrev pub invariant-loop : goal.invariant-loop
invariant-loop g l = l.index < l.whole
