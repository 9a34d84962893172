-- A row that did not come, handed in as 34 bytes of ones. Assumes nothing.
use mathlib.Core.Path.{◌≡◌, refl, sym, subst}
use mathlib.Core.Bool.{Bool, true}
use mathlib.Core.List.{List}
use Prim.Native.Nat.{ℕ}
use lib.ListN.{replicate}
use Rattle.code.proofs.Ones.{ones_far}
use Rattle.words.specs.Bytes.{bit_of, bits_of, row_of}
use Rattle.words.specs.Near.{NoneNear}
use Rattle.frame.specs.Frames.{Becomes, corrected, kept}

all_ones : row_of (replicate 34 255) ≡ replicate 272 true
unfolding bits_of bit_of
all_ones = refl

-- IT IS REFUSED AND STAYS in a stage
pub lost_row : (result : List Bool) (i : ℕ) → Becomes (row_of (replicate 34 255)) result i → (result ≡ row_of (replicate 34 255)) × (i ≡ 1)
lost_row result i (corrected code near) = absurd (subst NoneNear (sym all_ones) ones_far result code near)
lost_row result i (kept none same) = (same, refl)
