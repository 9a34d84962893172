-- Sums of numbers and of bits over lists, and over the places of a circle. Assumes nothing.
use mathlib.Core.Path.{◌≡◌, refl, sym, ap, ◌∙◌}
use mathlib.Core.Bool.{Bool, true, false}
use mathlib.Core.List.{List, [], ◌∷◌, ◌++◌, map}
use mathlib.Core.Logic.{◌⊎◌, inl, inr, ⊎_elim}
use Prim.Native.Nat.{ℕ, zero, suc, ◌+◌, ◌*◌, ◌%◌, ◌≤◌, ◌<◌}
use native.Mathlib.Nat.{zero-add, add-zero, zero-mul, one-mul, add-mul, not-suc-le-zero, mod-eq_of_lt, add-mod_right}
use native.Mathlib.Omega.{arith}
use lib.Dec.{eqb, eqb-zero-suc, eqb-suc-zero, eqb-suc-suc}
use lib.ListN.{length}
use Rattle.gf2.specs.Poly.{bit, ◌⊕◌}
use Rattle.gf2.proofs.Bits.{⊕_swap}
use Rattle.code.specs.Code.{distance}
use Rattle.code.specs.Vote.{bit_at, parity_over, sum_over, occurs, seventeen_once}

-- f 0 + .. + f (n - 1)
unfoldable pub sum_to : ℕ → (ℕ → ℕ) → ℕ
sum_to zero f = 0
sum_to (suc n) f = f zero + sum_to n (λ v. f (suc v))

sum_to_cong : (n : ℕ) (f g : ℕ → ℕ) → ((v : ℕ) → v < n → f v ≡ g v) → sum_to n f ≡ sum_to n g
unfolding sum_to
sum_to_cong zero f g h = refl
sum_to_cong (suc n) f g h = omega (arith, h zero (omega arith), sum_to_cong n (λ v. f (suc v)) (λ v. g (suc v)) (λ v l. h (suc v) (omega arith)))

pub sum_to_le : (n : ℕ) (f g : ℕ → ℕ) → ((v : ℕ) → v < n → f v ≤ g v) → sum_to n f ≤ sum_to n g
unfolding sum_to
sum_to_le zero f g h = omega arith
sum_to_le (suc n) f g h = omega (arith, h zero (omega arith), sum_to_le n (λ v. f (suc v)) (λ v. g (suc v)) (λ v l. h (suc v) (omega arith)))

sum_to_add : (n : ℕ) (f g : ℕ → ℕ) → sum_to n (λ v. f v + g v) ≡ sum_to n f + sum_to n g
unfolding sum_to
sum_to_add zero f g = refl
sum_to_add (suc n) f g = omega (arith, sum_to_add n (λ v. f (suc v)) (λ v. g (suc v)))

sum_to_zero : (n : ℕ) (f : ℕ → ℕ) → ((v : ℕ) → v < n → f v ≡ 0) → sum_to n f ≡ 0
unfolding sum_to
sum_to_zero zero f h = refl
sum_to_zero (suc n) f h = omega (arith, h zero (omega arith), sum_to_zero n (λ v. f (suc v)) (λ v l. h (suc v) (omega arith)))

sum_to_last : (n : ℕ) (f : ℕ → ℕ) → sum_to (suc n) f ≡ sum_to n f + f n
unfolding sum_to
sum_to_last zero f = omega arith
sum_to_last (suc n) f = omega (arith, sum_to_last n (λ v. f (suc v)))

-- a sum round a circle may start at any place
pub sum_to_turn : (n : ℕ) (f : ℕ → ℕ) (p : ℕ) → sum_to n (λ v. f ((p + v) % n)) ≡ sum_to n f
unfolding sum_to
sum_to_turn n f zero = sum_to_cong n _ _ (λ v l. ap f (ap (λ (m : ℕ). m % n) (zero-add v) ∙ mod-eq_of_lt l))
sum_to_turn n f (suc p) =
    omega (
      arith,
      sum_to_last n (λ v. f ((p + v) % n)),
      ap (λ (m : ℕ). f (m % n)) (add-zero p),
      ap f (add-mod_right p n),
      sum_to_cong n (λ v. f ((suc p + v) % n)) (λ v. f ((p + suc v) % n)) (λ v l. ap (λ (m : ℕ). f (m % n)) (omega arith)),
      sum_to_turn n f p,
    )

-- the distance is the sum over the places
pub sum_to_distance : (n : ℕ) (r c : List Bool) → length r ≡ length c → length r ≤ n → sum_to n (λ v. bit (bit_at r v ⊕ bit_at c v)) ≡ distance r c
unfolding sum_to
sum_to_distance n [] [] e h = sum_to_zero n (λ v. 0) (λ v l. refl)
sum_to_distance n [] (y ∷ ys) e h = absurd (omega arith)
sum_to_distance n (x ∷ xs) [] e h = absurd (omega arith)
sum_to_distance zero (x ∷ xs) (y ∷ ys) e h = absurd (omega arith)
sum_to_distance (suc n) (x ∷ xs) (y ∷ ys) e h = ap (λ (m : ℕ). bit (x ⊕ y) + m) (sum_to_distance n xs ys (omega arith) (omega arith))

-- every entry is below n
abbrev pub Below : ℕ → List ℕ → Type 0
Below n [] = Unit {0}
Below n (x ∷ xs) = (x < n) × Below n xs

-- v is an entry
abbrev pub In : ℕ → List ℕ → Type 0
In v [] = ⊥
In v (x ∷ xs) = (v ≡ x) ⊎ In v xs

pub in_below : (n v : ℕ) (xs : List ℕ) → Below n xs → In v xs → v < n
in_below n v [] b m = absurd m
in_below n v (x ∷ xs) b m = ⊎_elim (λ e. rw e b.0) (λ i. in_below n v xs b.1 i) m

pub sum_over_le : (f g : ℕ → ℕ) (xs : List ℕ) → ((v : ℕ) → In v xs → f v ≤ g v) → sum_over f xs ≤ sum_over g xs
sum_over_le f g [] h = omega arith
sum_over_le f g (x ∷ xs) h = omega (arith, h x (inl refl), sum_over_le f g xs (λ v i. h v (inr i)))

pub sum_over_cong : (f g : ℕ → ℕ) (xs : List ℕ) → ((v : ℕ) → In v xs → f v ≡ g v) → sum_over f xs ≡ sum_over g xs
sum_over_cong f g [] h = refl
sum_over_cong f g (x ∷ xs) h = omega (arith, h x (inl refl), sum_over_cong f g xs (λ v i. h v (inr i)))

pub sum_over_add : (f g : ℕ → ℕ) (xs : List ℕ) → sum_over (λ v. f v + g v) xs ≡ sum_over f xs + sum_over g xs
sum_over_add f g [] = refl
sum_over_add f g (x ∷ xs) = omega (arith, sum_over_add f g xs)

pub sum_over_in : (f : ℕ → ℕ) (v : ℕ) (xs : List ℕ) → In v xs → f v ≤ sum_over f xs
sum_over_in f v [] m = absurd m
sum_over_in f v (x ∷ xs) m = ⊎_elim (λ e. omega (arith, ap f e)) (λ i. omega (arith, sum_over_in f v xs i)) m

pub sum_over_append : (f : ℕ → ℕ) (xs ys : List ℕ) → sum_over f (xs ++ ys) ≡ sum_over f xs + sum_over f ys
sum_over_append f [] ys = sym (zero-add (sum_over f ys))
sum_over_append f (x ∷ xs) ys = omega (arith, sum_over_append f xs ys)

pub sum_over_map : (f g : ℕ → ℕ) (xs : List ℕ) → sum_over f (map g xs) ≡ sum_over (λ v. f (g v)) xs
sum_over_map f g [] = refl
sum_over_map f g (x ∷ xs) = omega (arith, sum_over_map f g xs)

picked : (n : ℕ) (f : ℕ → ℕ) (x : ℕ) → x < n → sum_to n (λ v. bit (eqb v x) * f v) ≡ f x
unfolding sum_to
picked zero f x h = absurd (not-suc-le-zero h)
picked (suc n) f zero h =
    omega (arith, one-mul (f 0), sum_to_zero n (λ v. bit (eqb (suc v) zero) * f (suc v)) (λ v l. simp (eqb-suc-zero, zero-mul)))
picked (suc n) f (suc x) h =
    let first : bit (eqb zero (suc x)) * f zero ≡ 0 = simp (eqb-zero-suc, zero-mul) in
    let others : sum_to n (λ v. bit (eqb (suc v) (suc x)) * f (suc v)) ≡ f (suc x) =
    simp eqb-suc-suc (picked n (λ v. f (suc v)) x (omega arith)) in
    omega arith

-- a sum over a list, gathered by value
by_value : (n : ℕ) (f : ℕ → ℕ) (xs : List ℕ) → Below n xs → sum_over f xs ≡ sum_to n (λ v. occurs v xs * f v)
by_value n f [] h = sym (sum_to_zero n (λ v. 0 * f v) (λ v l. zero-mul (f v)))
by_value n f (x ∷ xs) h =
    omega (
      arith,
      sum_to_cong n (λ v. (bit (eqb v x) + occurs v xs) * f v) (λ v. bit (eqb v x) * f v + occurs v xs * f v) (λ v l. add-mul (bit (eqb v x)) (occurs v xs) (f v)),
      sum_to_add n (λ v. bit (eqb v x) * f v) (λ v. occurs v xs * f v),
      picked n f x h.0,
      by_value n f xs h.1,
    )

-- where 0 occurs seventeen times and each other number once
pub sum_differences : (n : ℕ) (f : ℕ → ℕ) (xs : List ℕ) → Below (suc n) xs → ((v : ℕ) → v < suc n → occurs v xs ≡ seventeen_once v)
    → sum_over f xs ≡ 16 * f 0 + sum_to (suc n) f
unfolding sum_to
sum_differences n f xs b h =
    omega (
      arith,
      by_value (suc n) f xs b,
      sum_to_cong (suc n) (λ v. occurs v xs * f v) (λ v. seventeen_once v * f v) (λ v l. ap (λ (m : ℕ). m * f v) (h v l)),
      sum_to_cong n (λ v. 1 * f (suc v)) (λ v. f (suc v)) (λ v l. one-mul (f (suc v))),
    )

-- a sum of bits is the parity of the sum of numbers
odd_more : (x y : Bool) (n : ℕ) → n % 2 ≡ bit y → (bit x + n) % 2 ≡ bit (x ⊕ y)
odd_more true true n h = omega arith
odd_more true false n h = omega arith
odd_more false y n h = omega arith

pub parity_sum_lem : (f : ℕ → Bool) (xs : List ℕ) → sum_over (λ v. bit (f v)) xs % 2 ≡ bit (parity_over f xs)
parity_sum_lem f [] = refl
parity_sum_lem f (x ∷ xs) = odd_more (f x) (parity_over f xs) (sum_over (λ v. bit (f v)) xs) (parity_sum_lem f xs)

pub parity_over_cong : (f g : ℕ → Bool) (xs : List ℕ) → ((v : ℕ) → In v xs → f v ≡ g v) → parity_over f xs ≡ parity_over g xs
parity_over_cong f g [] h = refl
parity_over_cong f g (x ∷ xs) h = λ i. h x (inl refl) i ⊕ parity_over_cong f g xs (λ v m. h v (inr m)) i

pub parity_over_⊕ : (f g : ℕ → Bool) (xs : List ℕ) → parity_over (λ v. f v ⊕ g v) xs ≡ parity_over f xs ⊕ parity_over g xs
parity_over_⊕ f g [] = refl
parity_over_⊕ f g (x ∷ xs) = ap (λ z. f x ⊕ g x ⊕ z) (parity_over_⊕ f g xs) ∙ ⊕_swap (f x) (g x) (parity_over f xs) (parity_over g xs)
