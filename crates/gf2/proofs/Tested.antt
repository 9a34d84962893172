-- What is computed number by number. Assumes nothing.
use mathlib.Core.Path.{sym, subst}
use mathlib.Core.Bool.{Bool, true, ◌&&◌}
use Prim.Native.Nat.{ℕ, zero, suc, ◌<◌}
use native.Mathlib.Nat.{not-suc-le-zero}
use native.Mathlib.Omega.{arith}
use native.Mathlib.Decide.{ℕ_discrete}
use lib.Dec.{T}
use lib.Ieee.Fits.{and_l, and_r}

-- a test passes at each number below n
abbrev pub all_to : ℕ → (ℕ → Bool) → Bool
all_to zero f = true
all_to (suc n) f = f n && all_to n f

pub tested : (n : ℕ) (f : ℕ → Bool) → T (all_to n f) → (v : ℕ) → v < n → T (f v)
tested zero f t v h = absurd (not-suc-le-zero h)
tested (suc n) f t v h =
    elim (ℕ_discrete v n) [
      | yes e ↦ subst (λ (m : ℕ). T (f m)) (sym e) (and_l (f n) (all_to n f) t)
      | no d ↦ tested n f (and_r (f n) (all_to n f) t) v (omega arith)
    ]
