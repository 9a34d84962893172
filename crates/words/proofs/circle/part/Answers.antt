-- `words::circle::part`: two words joined. Assumes nothing.
use native.Mathlib.Omega.{arith}
use Prim.Native.Nat.{◌/◌}
use Rattle.words.proofs.Rounds.{part_at}
use Rattle.words.proofs.circle.part.Goals as goal

pub returns : goal.returns
returns c =
    λ k h. part_at c.args.words.now c.args.at k c.requires.0 h (omega (arith, c.type_inv.words (c.args.at / 64)))
