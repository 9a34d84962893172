-- Polynomials over the field of two elements, as rows of bits, highest power first.
-- A divisor x^d + .. is given by the row of its d lower coefficients. Assumes nothing.
use Rattle.std.specs.Prelude.{◌≡◌, Bool, true, false, ◌&&◌, ◌||◌, List, [], ◌∷◌, ◌++◌, ℕ, zero, suc, eqb, length, replicate, drop}

-- a bit as a number
abbrev pub bit : Bool → ℕ
bit true = 1
bit false = 0

infixl 70 ◌⊕◌
-- the sum of two bits
abbrev pub ◌⊕◌ : Bool → Bool → Bool
true ⊕ true = false
true ⊕ false = true
false ⊕ b = b

-- the row f p, f (p + 1), .. of n bits
abbrev pub row_from : (ℕ → Bool) → ℕ → ℕ → List Bool
row_from f p zero = []
row_from f p (suc n) = f p ∷ row_from f (suc p) n

-- a bit times a row
abbrev pub scale : Bool → List Bool → List Bool
scale b [] = []
scale b (x ∷ xs) = (b && x) ∷ scale b xs

-- the first row, the shorter or as long, added into the leading places of the second
abbrev pub add : List Bool → List Bool → List Bool
add [] ys = ys
add (x ∷ xs) [] = []
add (x ∷ xs) (y ∷ ys) = x ⊕ y ∷ add xs ys

-- the product of q and the divisor: the leading bit of q brings the divisor in once, at the front
abbrev pub times : List Bool → List Bool → List Bool
times low [] = replicate (length low) false
times low (b ∷ q) = b ∷ add (scale b low) (times low q)

-- long division in k steps: the k leading places become the quotient, what is behind them the remainder
abbrev pub divided : List Bool → ℕ → List Bool → List Bool
divided low zero row = row
divided low (suc k) [] = []
divided low (suc k) (b ∷ row) = b ∷ divided low k (add (scale b low) row)

abbrev pub remainder : List Bool → ℕ → List Bool → List Bool
remainder low k row = drop k (divided low k row)

-- a row of k + d places is a multiple of the divisor of degree d
pub record Multiple (low : List Bool) (k : ℕ) (row : List Bool) : Type 0 where
  pub quotient : List Bool
  pub long : length quotient ≡ k
  pub product : row ≡ times low quotient

-- the check of some information: the remainder of information times x^d
abbrev pub check_of : List Bool → List Bool → List Bool
check_of low info = remainder low (length info) (info ++ replicate (length low) false)

-- systematic writing: the information, then its check
abbrev pub systematic : List Bool → List Bool → List Bool
systematic low info = info ++ check_of low info

-- a number is among others
abbrev pub elem : ℕ → List ℕ → Bool
elem n [] = false
elem n (e ∷ es) = eqb n e || elem n es

-- the coefficients, from x^(d-1) down to 1, of the polynomial with these powers; greater powers have no effect
abbrev pub lower : ℕ → List ℕ → List Bool
lower zero powers = []
lower (suc d) powers = elem d powers ∷ lower d powers
