use mathlib.Core.Path.{ap, ◌∙◌}
use Rattle.words.proofs.Bytes.{bytes_filled}
use lib.ListN.{take}
use native.Mathlib.Omega.{arith}
use Prim.Native.Nat.{ℕ, ◌*◌}
use Rattle.block.proofs.rows.fill_bytes.Goals as goal

pub returns : goal.returns
returns c =
    let a = c.args in
    bytes_filled a.row.now c.loop-k.out c.loop-k.k (omega arith) (omega arith) c.loop-k.invariant
    ∙ ap (λ (n : ℕ). take (8 * n) a.row.now) c.loop-k.auto.out
