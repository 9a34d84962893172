-- 82 parity sums in a row that are even make a code word. Assumes nothing.
use mathlib.Core.Path.{◌≡◌, refl, sym, ap, ◌∙◌}
use mathlib.Core.Bool.{Bool, true, false, ◌&&◌, and-false}
use mathlib.Core.List.{List, [], ◌∷◌}
use Prim.Native.Nat.{ℕ, zero, suc, ◌+◌, ◌-◌, ◌*◌, ◌%◌, ◌≤◌, ◌<◌}
use native.Mathlib.Nat.{zero-add}
use native.Mathlib.Omega.{arith}
use native.Mathlib.Decide.{dec_lt}
use lib.Dec.{eqb}
use lib.ListN.{length, replicate}
use Rattle.gf2.specs.Poly.{◌⊕◌, scale, add, remainder}
use Rattle.gf2.proofs.Bits.{⊕_false}
use Rattle.gf2.proofs.Remainders.{length_scale, length_add, remainder_multiple}
use Rattle.code.specs.Code.{generator, CodeWord}
use Rattle.code.specs.Vote.{bit_at, parity_over, check_positions, parity_sum}
use Rattle.code.proofs.Sums.{parity_over_cong}
use Rattle.code.proofs.Computed.{has, singling, alone, generator_length}
use Rattle.code.proofs.Orthogonal.{masked, masked_add, masked_scale, masked_nowhere, masked_cong, masked_⊕, masked_one, masked_over, sum_masked, shifted_on, generator_has}

-- 82 parity sums in a row, from a shift on, are even
abbrev EvenFrom : List Bool → ℕ → Type 0
EvenFrom row start = (t : ℕ) → t < 82 → parity_sum row (start + t) ≡ false

-- a sum of sums may be taken the other way
masked_&& : (b : Bool) (m : ℕ → Bool) (xs : List Bool) → (b && masked m xs) ≡ masked (λ v. b && m v) xs
masked_&& true m xs = refl
masked_&& false m xs = sym (masked_nowhere xs)

masked_swap : (m : ℕ → ℕ → Bool) (xs ys : List Bool) → masked (λ i. masked (m i) ys) xs ≡ masked (λ v. masked (λ i. m i v) xs) ys
masked_swap m [] ys = sym (masked_nowhere ys)
masked_swap m (x ∷ xs) ys =
    (λ i. masked_&& x (m zero) ys i ⊕ masked_swap (λ j. m (suc j)) xs ys i)
    ∙ sym (masked_⊕ (λ v. x && m zero v) (λ v. masked (λ j. m (suc j) v) xs) ys)

module _ (row : List Bool) (l : length row ≡ 272) where
  -- the sums at the generator's places, back from any shift, cancel: what they have of a place is a sum of the generator
  cancel : (t : ℕ) → masked (λ i. parity_sum row (t + (82 - i))) (true ∷ generator) ≡ false
  cancel t =
      (λ j. masked (λ i. sum_masked row (t + (82 - i)) j) (true ∷ generator))
      ∙ masked_swap (λ i. has (t + (82 - i))) (true ∷ generator) row
      ∙ masked_cong 273 (λ v. masked (λ i. has (t + (82 - i)) v) (true ∷ generator)) (λ v. false) row (omega arith)
      (λ v h. generator_has (t + 82 + 272 * v) (λ i. has (t + (82 - i)) v) (λ i g. shifted_on (t + (82 - i)) (t + 82 + 272 * v) v i h (omega arith) (omega arith)))
      ∙ masked_nowhere row

  -- so a sum is even where the 82 before it are
  next : (t : ℕ) → EvenFrom row t → parity_sum row (t + 82) ≡ false
  next t even = sym (⊕_false (parity_sum row (t + 82))) ∙ ap (λ z. parity_sum row (t + 82) ⊕ z) (sym before) ∙ cancel t
    where
      before : masked (λ i. parity_sum row (t + (82 - suc i))) generator ≡ false
      before =
          masked_cong 82 (λ i. parity_sum row (t + (82 - suc i))) (λ i. false) generator (omega (arith, generator_length)) (λ i h. even (82 - suc i) (omega arith))
          ∙ masked_nowhere generator

  -- and so all are
  one_on : (t u : ℕ) → parity_sum row (suc t + u) ≡ parity_sum row (t + suc u)
  one_on t u = ap (parity_sum row) (omega arith)

  onward : (n t : ℕ) → EvenFrom row t → parity_sum row (t + n) ≡ false
  onward zero t even = even 0 (omega arith)
  onward (suc n) t even =
      sym (one_on t n)
      ∙ onward n (suc t)
      (λ u h. one_on t u
      ∙ elim (dec_lt (suc u) 82) [
        | yes g ↦ even (suc u) g
        | no g ↦ ap (λ (k : ℕ). parity_sum row (t + k)) (omega arith) ∙ next t even
      ])

  every : (start : ℕ) → EvenFrom row start → (t : ℕ) → parity_sum row t ≡ false
  unfolding parity_sum
  every start even t =
      parity_over_cong (λ s. bit_at row ((t + s) % 273)) (λ s. bit_at row ((start + (272 * start + t) + s) % 273)) check_positions (λ s m. ap (bit_at row) (omega arith))
      ∙ onward (272 * start + t) start even

-- a leading zero left off leaves all sums even
zero_off : (row : List Bool) → length row < 273 → ((t : ℕ) → parity_sum (false ∷ row) t ≡ false) → (t : ℕ) → parity_sum row t ≡ false
zero_off row l even t =
    sum_masked row t
    ∙ masked_cong (length row) (has t) (λ v. has (suc t) (suc v)) row (omega arith) (λ v h. shifted_on t (suc t) v (suc v) (omega arith) (omega arith) (omega arith))
    ∙ sym (sum_masked (false ∷ row) (suc t))
    ∙ even (suc t)

-- at most 82 places are zero where all sums are even, the first first: eleven sums, added, have it alone
all_zero : (row : List Bool) → length row ≤ 82 → ((t : ℕ) → parity_sum row t ≡ false) → row ≡ replicate (length row) false
unfolding singling
all_zero [] l even = refl
all_zero (b ∷ row) l even = λ i. first i ∷ all_zero row (omega arith) (zero_off row (omega arith) (λ t. ap (λ z. parity_sum (z ∷ row) t) (sym first) ∙ even t)) i
  where
    first : b ≡ false
    first =
        sym (masked_one (b ∷ row) 0)
        ∙ masked_cong 82 (λ v. eqb v 0) (λ v. parity_over (λ k. has k v) singling) (b ∷ row) l alone
        ∙ masked_over has singling (b ∷ row)
        ∙ parity_over_cong (λ k. masked (has k) (b ∷ row)) (λ k. false) singling (λ k m. sym (sum_masked (b ∷ row) k) ∙ even k)

-- the long division leaves all sums even, so its remainder is zero: what a step brings in is the generator
gone : (b : Bool) → (b && true) ⊕ b ≡ false
gone true = refl
gone false = refl

less : (b : Bool) (row : List Bool) → 82 ≤ length row → ((t : ℕ) → parity_sum (b ∷ row) t ≡ false) → (t : ℕ) → parity_sum (false ∷ add (scale b generator) row) t ≡ false
less b row l even t =
    ap (λ z. parity_sum (z ∷ add (scale b generator) row) t) (sym (gone b))
    ∙ sum_masked (add (scale b (true ∷ generator)) (b ∷ row)) t
    ∙ masked_add (has t) (scale b (true ∷ generator)) (b ∷ row) (rw length_scale (omega (arith, generator_length)))
    ∙ (λ i. (masked_scale (has t) b (true ∷ generator) ∙ ap (λ z. b && z) (generator_has t (has t) (λ v h. refl)) ∙ and-false b) i ⊕ (sym (sum_masked (b ∷ row) t) ∙ even t) i)

no_remainder : (k : ℕ) (row : List Bool) → length row ≡ k + length generator → length row ≤ 273 → ((t : ℕ) → parity_sum row t ≡ false) → remainder generator k row ≡ replicate (length generator) false
no_remainder zero row l h even = all_zero row (omega (arith, generator_length)) even ∙ ap (λ (n : ℕ). replicate n false) (l ∙ zero-add (length generator))
no_remainder (suc k) [] l h even = absurd (omega arith)
no_remainder (suc k) (b ∷ row) l h even =
    let long : length (add (scale b generator) row) ≡ length row = length_add (scale b generator) row in
    no_remainder k (add (scale b generator) row) (omega arith) (omega arith)
    (zero_off (add (scale b generator) row) (omega arith) (less b row (omega (arith, generator_length)) even))

-- 82 SUMS IN A ROW THAT ARE EVEN MAKE A CODE WORD
pub even_code : (row : List Bool) (start : ℕ) → length row ≡ 272 → ((t : ℕ) → t < 82 → parity_sum row (start + t) ≡ false) → CodeWord row
even_code row start l even =
    let long : length row ≡ 190 + length generator = omega (arith, generator_length) in
    remainder_multiple generator 190 row long (no_remainder 190 row long (omega arith) (every row l start even))
