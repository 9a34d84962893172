-- `block::rows::fill_bytes`: the bytes below k are packed. Assumes nothing.
use Rattle.words.specs.Bytes.{byte_of}
use Rattle.gf2.proofs.Lists.{Filled}
use lib.ListN.{take, drop}
use Prim.Native.Nat.{◌*◌}
use Rattle.block.proofs.rows.fill_bytes.Given as goal

abbrev pub invariant-loop-k : goal.invariant-loop-k
invariant-loop-k l = Filled 0 (λ i. byte_of (take 8 (drop (8 * i) l.row))) l.out l.k
