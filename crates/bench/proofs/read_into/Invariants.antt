-- `bench::read_into`: what came is within the room. Assumes nothing.
use Rattle.std.proofs.Common.{length, ◌≤◌}
use Rattle.bench.proofs.read_into.Given as goal

abbrev pub invariant-loop : goal.invariant-loop
invariant-loop g l = l.length ≤ length l.room
