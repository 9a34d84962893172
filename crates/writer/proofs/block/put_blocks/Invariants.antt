-- `writer::block::put_blocks`: the blocks so far, and those of the bytes that are left, make the whole. Assumes nothing.
use Prim.Native.Nat.{◌-◌, ◌*◌, ◌/◌, ◌<◌}
use mathlib.Core.List.{◌++◌}
use mathlib.Core.Path.{◌≡◌}
use lib.ListN.{length, take, drop}
use Rattle.writer.specs.Message.{cut, flat}
use Rattle.writer.proofs.block.put_blocks.Given as goal

abbrev pub invariant-loop-i : goal.invariant-loop-i
invariant-loop-i l =
    let n = length l.bytes / 20 in
    (l.next < 16)
    × (flat (cut n l.di l.sc l.bytes) ++ drop (22 * n) l.initial.output ≡ take (22 * l.i) l.output ++ (flat (cut (n - l.i) l.di l.next (drop (20 * l.i) l.bytes)) ++ drop (22 * n) l.initial.output))
    × (drop (22 * l.i) l.output ≡ drop (22 * l.i) l.initial.output)
