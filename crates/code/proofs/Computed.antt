-- What antt computes over the tables: the difference property of the check positions, that the generator's parity sums are
-- even, and eleven sums that have one place alone. Assumes nothing.
use mathlib.Core.Path.{◌≡◌, refl}
use mathlib.Core.Bool.{Bool, true, false, ◌&&◌, not}
use mathlib.Core.List.{List, [], ◌∷◌}
use Prim.Native.Nat.{ℕ, ◌+◌, ◌%◌, ◌<◌}
use lib.Dec.{T, eqb, eqb→eq, ltb, ltb→lt}
use lib.Ieee.Bits.{is_false}
use lib.Ieee.Fits.{and_l, and_r}
use lib.ListN.{length}
use Rattle.gf2.specs.Poly.{◌⊕◌}
use Rattle.gf2.proofs.Bits.{⊕_zero}
use Rattle.gf2.proofs.Tested.{tested}
use Rattle.code.specs.Code.{generator}
use Rattle.code.specs.Vote.{residues, parity_over, sum_over, differences, occurs, seventeen_once, check_positions, parity_sum}
use Rattle.code.proofs.Sums.{Below}

abbrev difference_set : List ℕ → ℕ → Bool
difference_set ss v = eqb (occurs v (differences ss ss)) (seventeen_once v)

-- EACH NONZERO RESIDUE IS THE DIFFERENCE OF EXACTLY ONE ORDERED PAIR: of the residues as printed, and of the check positions
pub pair_printed : (v : ℕ) → v < 273 → occurs v (differences residues residues) ≡ seventeen_once v
pair_printed v h = eqb→eq _ _ (tested 273 (difference_set residues) tt v h)

pub pair_once : (v : ℕ) → v < 273 → occurs v (differences check_positions check_positions) ≡ seventeen_once v
unfolding check_positions
pair_once v h = eqb→eq _ _ (tested 273 (difference_set check_positions) tt v h)

-- THE GENERATOR'S SUMS ARE EVEN at each of the 273 shifts
pub generator_even : (t : ℕ) → t < 273 → parity_sum (true ∷ generator) t ≡ false
unfolding check_positions generator parity_sum
generator_even t h = is_false _ (tested 273 (λ u. not (parity_sum (true ∷ generator) u)) tt t h)

-- the sum at shift t has the place v
abbrev pub has : ℕ → ℕ → Bool
has t v = parity_over (λ s. eqb v ((t + s) % 273)) check_positions

-- eleven of the 82 shifts from 192 round to 0, found by elimination
unfoldable pub singling : List ℕ
singling = 0 ∷ 206 ∷ 224 ∷ 230 ∷ 242 ∷ 252 ∷ 254 ∷ 256 ∷ 260 ∷ 266 ∷ 272 ∷ []

-- OF THE FIRST 82 PLACES THE ELEVEN SUMS, ADDED, HAVE PLACE 0 ALONE
pub alone : (v : ℕ) → v < 82 → eqb v 0 ≡ parity_over (λ k. has k v) singling
unfolding check_positions singling
alone v h = ⊕_zero _ _ (is_false _ (tested 82 (λ w. not (eqb w 0 ⊕ parity_over (λ k. has k w) singling)) tt v h))

pub generator_length : length generator ≡ 82
unfolding generator
generator_length = refl

pub positions_length : length check_positions ≡ 17
unfolding check_positions
positions_length = refl

pub positions_twice : sum_over (λ s. 2) check_positions ≡ 34
unfolding check_positions
positions_twice = refl

abbrev all_below : ℕ → List ℕ → Bool
all_below n [] = true
all_below n (x ∷ xs) = ltb x n && all_below n xs

below : (n : ℕ) (xs : List ℕ) → T (all_below n xs) → Below n xs
below n [] t = tt
below n (x ∷ xs) t = (ltb→lt x n (and_l (ltb x n) (all_below n xs) t), below n xs (and_r (ltb x n) (all_below n xs) t))

pub positions_below : Below 273 check_positions
unfolding check_positions
positions_below = below 273 check_positions tt
