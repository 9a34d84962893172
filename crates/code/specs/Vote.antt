-- Document 01, "The block": the corrector votes, 17 parity sums meet in each position. Of this file a public promise cites
-- `check_positions` alone, the table that `words` votes with; the rest says how the word is found. Assumes nothing.
use Rattle.std.specs.Prelude.{Bool, false, List, [], ◌∷◌, ◌++◌, map, ℕ, zero, suc, ◌+◌, ◌-◌, ◌*◌, ◌%◌, eqb, leb, length, get_or}
use Rattle.gf2.specs.Poly.{bit, ◌⊕◌, row_from}

-- the seventeen residues, as printed
abbrev pub residues : List ℕ
residues = 1 ∷ 2 ∷ 4 ∷ 8 ∷ 16 ∷ 32 ∷ 64 ∷ 91 ∷ 117 ∷ 128 ∷ 137 ∷ 182 ∷ 195 ∷ 205 ∷ 234 ∷ 239 ∷ 256 ∷ []

-- some multiple of them by a number prime to 273 gives the sums for this generator: by 67
unfoldable pub check_positions : List ℕ
check_positions = map (λ r. 67 * r % 273) residues

-- the bit at a position; zero behind the last. Position p stands for x^(271-p), so the left-off leading place, that of x^272, is the position before 0: on the
-- circle of 273 that is 272.
abbrev pub bit_at : List Bool → ℕ → Bool
bit_at row p = get_or row p false

-- a sum of bits over a list, and a sum of numbers
abbrev pub parity_over : (ℕ → Bool) → List ℕ → Bool
parity_over f [] = false
parity_over f (v ∷ vs) = f v ⊕ parity_over f vs

abbrev pub sum_over : (ℕ → ℕ) → List ℕ → ℕ
sum_over f [] = 0
sum_over f (v ∷ vs) = f v + sum_over f vs

-- l - k modulo 273 for each entry l of one list and each k of another; of a list with itself, the differences of all its ordered pairs
abbrev pub differences : List ℕ → List ℕ → List ℕ
differences ss [] = []
differences ss (k ∷ ks) = map (λ l. (273 + l - k) % 273) ss ++ differences ss ks

-- how often a number is an entry
abbrev pub occurs : ℕ → List ℕ → ℕ
occurs v xs = sum_over (λ x. bit (eqb v x)) xs

-- of seventeen entries, each with itself gives 0; each nonzero residue is to be the difference of exactly one ordered pair
abbrev pub seventeen_once : ℕ → ℕ
seventeen_once zero = 17
seventeen_once (suc v) = 1

-- the parity sum at shift t, of the seventeen positions t + s round the circle of 273
unfoldable pub parity_sum : List Bool → ℕ → Bool
parity_sum row t = parity_over (λ s. bit_at row ((t + s) % 273)) check_positions

unfoldable pub parity_sums : List Bool → List Bool
parity_sums row = row_from (parity_sum row) 0 273

-- how many are odd of the seventeen sums that meet in position p, those at the shifts p - s
unfoldable pub odd_sums : List Bool → ℕ → ℕ
odd_sums sums p = sum_over (λ s. bit (bit_at sums ((p + 273 - s) % 273))) check_positions

-- more than half of seventeen
abbrev pub majority : ℕ
majority = 9

-- each bit is turned where the majority of its sums is odd
unfoldable pub voted : List Bool → List Bool
voted row = row_from (λ p. bit_at row p ⊕ leb majority (odd_sums (parity_sums row) p)) 0 (length row)
