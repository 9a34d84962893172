-- `bench::records::each`: there is a record with the index. Assumes nothing.
use Rattle.std.proofs.Common.{length, ◌<◌}
use Rattle.bench.proofs.records.each.Given as goal

abbrev pub invariant-loop : goal.invariant-loop
invariant-loop g l = goal.F-IsAlwaysCallable g l.take_one × (l.index < length l.records)
