-- `words::votes::within`: two words of ones. Assumes nothing.
use native.Mathlib.Omega.{arith}
use Prim.Native.Nat.{ℕ, ◌+◌, ◌*◌}
use mathlib.Core.Path.{◌≡◌, ap, ◌∙◌}
use lib.Dec.{ltb}
use Rattle.words.proofs.Counts.{last_within, all_within}
use Rattle.words.proofs.votes.within.Goals as goal

pub returns-then-i-eq4 : goal.returns-then-i-eq4
returns-then-i-eq4 c =
    λ k h. let e : 256 + k ≡ 64 * c.args.i + k = omega arith in
    last_within k h ∙ ap (λ (n : ℕ). ltb n 272) e

pub returns-else-i-eq4 : goal.returns-else-i-eq4
returns-else-i-eq4 c = λ k h. all_within c.args.i k (omega arith) h
