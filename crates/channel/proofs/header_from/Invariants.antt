-- `channel::header_from`: the header so far, with the bytes from a place on behind it, is the whole. Assumes nothing.
use Prim.Native.Nat.{◌-◌, ◌*◌, ◌<◌, ◌^◌}
use mathlib.Core.Path.{◌≡◌}
use lib.ListN.{length, drop, replicate}
use Rattle.header.specs.Header.{behind, header_from}
use Rattle.channel.proofs.header_from.Given as goal

abbrev pub invariant-loop-byte : goal.invariant-loop-byte
invariant-loop-byte l =
    (l.header < 2 ^ (8 * l.byte-index)) × (behind l.header (replicate (length l.bytes - l.byte-index) 8) (drop l.byte-index l.bytes) ≡ header_from l.bytes)
