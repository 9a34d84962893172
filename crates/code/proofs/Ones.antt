-- A row of ones. Assumes nothing.
use mathlib.Core.Path.{ap}
use mathlib.Core.Bool.{Bool, true}
use mathlib.Core.List.{List}
use Prim.Native.Nat.{◌≤◌}
use native.Mathlib.Omega.{arith}
use lib.Dec.{leb→le}
use lib.ListN.{replicate, length-replicate}
use Rattle.code.specs.Code.{CodeWord, distance, most_corrected}
use Rattle.code.specs.Vote.{check_positions, parity_sum, parity_sums, odd_sums, voted}
use Rattle.code.proofs.Majority.{vote_right}

-- the vote turns more than eight of its places
turned : 9 ≤ distance (replicate 272 true) (voted (replicate 272 true))
unfolding check_positions parity_sum parity_sums odd_sums voted
turned = leb→le 9 (distance (replicate 272 true) (voted (replicate 272 true))) tt

-- A ROW OF ONES IS NEAR NO CODE WORD
pub ones_far : (word : List Bool) → CodeWord word → distance (replicate 272 true) word ≤ most_corrected → ⊥
ones_far word code near = omega (arith, turned, ap (distance (replicate 272 true)) (vote_right (replicate 272 true) word (length-replicate 272 true) code near))
