-- `block::rows::byte_at`: the places from j on are in the byte. Assumes nothing.
use Rattle.words.specs.Bytes.{byte_of}
use lib.ListN.{take, drop}
use Prim.Native.Nat.{◌-◌, ◌+◌}
use mathlib.Core.Path.{◌≡◌}
use Rattle.block.proofs.rows.byte_at.Given as goal

abbrev pub invariant-loop-j : goal.invariant-loop-j
invariant-loop-j l = l.byte ≡ byte_of (take (8 - l.j) (drop (l.at + l.j) l.row))
