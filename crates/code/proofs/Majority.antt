-- The vote gives every code word within eight places, so there is only one; and nine places away is too far. Assumes nothing.
use mathlib.Core.Path.{◌≡◌, refl, sym, ap, ◌∙◌}
use mathlib.Core.Bool.{Bool, true, false}
use mathlib.Core.List.{List, [], ◌∷◌, ◌++◌, map}
use Prim.Native.Nat.{ℕ, ◌+◌, ◌-◌, ◌*◌, ◌%◌, ◌≤◌, ◌<◌}
use native.Mathlib.Nat.{mod-lt}
use native.Mathlib.Omega.{arith}
use borrow.Author.Tests.{le-leb, lt-leb}
use lib.Dec.{leb, lit<}
use lib.ListN.{length}
use lib.Seq.{ext_get_or}
use Rattle.gf2.specs.Poly.{bit, ◌⊕◌}
use Rattle.gf2.proofs.Bits.{⊕_false, ⊕_twice}
use Rattle.gf2.proofs.Lists.{length_row_from, get_or_row_from}
use Rattle.gf2.proofs.Remainders.{multiple_length}
use Rattle.code.specs.Code.{generator, CodeWord, distance, most_corrected}
use Rattle.code.specs.Vote.{differences, bit_at, parity_over, sum_over, check_positions, parity_sum, parity_sums, odd_sums, majority, voted}
use Rattle.code.proofs.Sums.{Below, In, in_below, sum_to, sum_to_turn, sum_to_distance, sum_to_le, sum_differences, sum_over_append, sum_over_map, sum_over_le, sum_over_cong, sum_over_add, sum_over_in, parity_sum_lem, parity_over_⊕}
use Rattle.code.proofs.Computed.{pair_once, positions_below, positions_twice, generator_length}
use Rattle.code.proofs.Orthogonal.{code_even}

-- differences are residues
row_below : (k : ℕ) (ls rest : List ℕ) → Below 273 rest → Below 273 (map (λ l. (273 + l - k) % 273) ls ++ rest)
row_below k [] rest h = h
row_below k (l ∷ ls) rest h = (mod-lt (273 + l - k) (lit< tt), row_below k ls rest h)

differences_below : (ss ks : List ℕ) → Below 273 (differences ss ks)
differences_below ss [] = tt
differences_below ss (k ∷ ks) = row_below k ss (differences ss ks) (differences_below ss ks)

-- what the sums through p count, as one sum over the differences
over_differences : (f : ℕ → ℕ) (p : ℕ) (ss ks : List ℕ) → Below 273 ks
    → sum_over (λ k. sum_over (λ l. f (((p + 273 - k) % 273 + l) % 273)) ss) ks ≡ sum_over (λ v. f ((p + v) % 273)) (differences ss ks)
over_differences f p ss [] b = refl
over_differences f p ss (k ∷ ks) b =
    omega (
      arith,
      over_differences f p ss ks b.1,
      sum_over_append (λ v. f ((p + v) % 273)) (map (λ l. (273 + l - k) % 273) ss) (differences ss ks),
      sum_over_map (λ v. f ((p + v) % 273)) (λ l. (273 + l - k) % 273) ss,
      sum_over_cong (λ l. f (((p + 273 - k) % 273 + l) % 273)) (λ l. f ((p + (273 + l - k) % 273) % 273)) ss (λ l i. ap f (omega arith)),
    )

-- e tells where a received row and a code word differ
module _ (e : ℕ → Bool) where
  wrong_in : ℕ → ℕ
  wrong_in t = sum_over (λ s. bit (e ((t + s) % 273))) check_positions

  odd_at : ℕ → Bool
  odd_at t = parity_over (λ s. e ((t + s) % 273)) check_positions

  -- the seventeen sums through p count p seventeen times and every other place once
  total : (p : ℕ) → p < 273 → sum_over (λ k. wrong_in ((p + 273 - k) % 273)) check_positions ≡ 16 * bit (e p) + sum_to 273 (λ v. bit (e v))
  unfolding wrong_in
  total p h =
      over_differences (λ v. bit (e v)) p check_positions check_positions positions_below
      ∙ sum_differences 272 (λ v. bit (e ((p + v) % 273))) (differences check_positions check_positions) (differences_below check_positions check_positions) pair_once
      ∙ omega (arith, sum_to_turn 273 (λ v. bit (e v)) p, ap (λ (m : ℕ). bit (e m)) same)
    where
      same : (p + 0) % 273 ≡ p
      same = omega arith

  odd_wrong : (t : ℕ) → wrong_in t % 2 ≡ bit (odd_at t)
  unfolding wrong_in odd_at
  odd_wrong t = parity_sum_lem (λ s. e ((t + s) % 273)) check_positions

  meets : (p : ℕ) → p < 273 → (s : ℕ) → In s check_positions → bit (e p) ≤ wrong_in ((p + 273 - s) % 273)
  unfolding wrong_in
  meets p h s i =
      let b : s < 273 = in_below 273 s check_positions positions_below i in
      let back : ((p + 273 - s) % 273 + s) % 273 ≡ p = omega arith in
      omega (arith, sum_over_in (λ u. bit (e (((p + 273 - s) % 273 + u) % 273))) s check_positions i, ap (λ (m : ℕ). bit (e m)) back)

  votes : ℕ → ℕ
  votes p = sum_over (λ s. bit (odd_at ((p + 273 - s) % 273))) check_positions

  -- a right place has at most as many odd sums as there are wrong places
  few : (p : ℕ) → p < 273 → sum_to 273 (λ v. bit (e v)) ≤ most_corrected → e p ≡ false → votes p < majority
  unfolding votes
  few p h w z =
      omega (
        arith,
        total p h,
        ap bit z,
        sum_over_le (λ s. bit (odd_at ((p + 273 - s) % 273))) (λ s. wrong_in ((p + 273 - s) % 273)) check_positions
            (λ s i. omega (arith, odd_wrong ((p + 273 - s) % 273))),
      )

  -- of a wrong place's sums only those are even that hold a second wrong place
  many : (p : ℕ) → p < 273 → sum_to 273 (λ v. bit (e v)) ≤ 9 → e p ≡ true → majority ≤ votes p
  unfolding votes
  many p h w z =
      omega (
        arith,
        total p h,
        ap bit z,
        positions_twice,
        sum_over_add (λ s. bit (odd_at ((p + 273 - s) % 273))) (λ s. wrong_in ((p + 273 - s) % 273)) check_positions,
        sum_over_le (λ s. 2) (λ s. bit (odd_at ((p + 273 - s) % 273)) + wrong_in ((p + 273 - s) % 273)) check_positions
            (λ s i. omega (arith, odd_wrong ((p + 273 - s) % 273), meets p h s i, ap bit z)),
      )

  decided : (p : ℕ) → p < 273 → sum_to 273 (λ v. bit (e v)) ≤ most_corrected → leb majority (votes p) ≡ e p
  decided p h w = go (e p) refl
    where
      go : (b : Bool) → e p ≡ b → leb majority (votes p) ≡ b
      go true z = le-leb majority _ (many p h (omega arith) z)
      go false z = lt-leb majority _ (few p h w z)

pub code_length : (word : List Bool) → CodeWord word → length word ≡ 272
code_length word w = multiple_length generator 190 word w ∙ omega (arith, generator_length)

-- of a received row and a code word
module _ (row word : List Bool) (l : length row ≡ 272) (w : CodeWord word) where
  wrong : ℕ → Bool
  wrong v = bit_at row v ⊕ bit_at word v

  wrongs : sum_to 273 (λ v. bit (wrong v)) ≡ distance row word
  unfolding wrong
  wrongs = sum_to_distance 273 row word (l ∙ sym (code_length word w)) (omega arith)

  -- the word's own sums are even, so a sum is odd as the wrong places in it are
  odd_sum : (t : ℕ) → parity_sum row t ≡ odd_at wrong t
  unfolding parity_sum odd_at wrong
  odd_sum t =
      sym (⊕_false (parity_over (λ s. bit_at row ((t + s) % 273)) check_positions))
      ∙ ap (λ z. parity_over (λ s. bit_at row ((t + s) % 273)) check_positions ⊕ z) (sym (code_even word w t))
      ∙ sym (parity_over_⊕ (λ s. bit_at row ((t + s) % 273)) (λ s. bit_at word ((t + s) % 273)) check_positions)

  odd_sums_votes : (p : ℕ) → odd_sums (parity_sums row) p ≡ votes wrong p
  unfolding odd_sums parity_sums votes
  odd_sums_votes p =
      sum_over_cong (λ s. bit (bit_at (parity_sums row) ((p + 273 - s) % 273))) (λ s. bit (odd_at wrong ((p + 273 - s) % 273))) check_positions
      (λ s i. ap bit (get_or_row_from (parity_sum row) 273 ((p + 273 - s) % 273) (mod-lt (p + 273 - s) (lit< tt)) ∙ odd_sum ((p + 273 - s) % 273)))

  turned : distance row word ≤ most_corrected → (p : ℕ) → p < 273 → leb majority (odd_sums (parity_sums row) p) ≡ bit_at row p ⊕ bit_at word p
  unfolding wrong
  turned d p h = ap (leb majority) (odd_sums_votes p) ∙ decided wrong p h (omega (arith, wrongs))

  turned_wrong : distance row word ≤ 9 → (p : ℕ) → p < 273 → bit_at row p ⊕ bit_at word p ≡ true → leb majority (odd_sums (parity_sums row) p) ≡ true
  unfolding wrong
  turned_wrong d p h e = ap (leb majority) (odd_sums_votes p) ∙ le-leb majority _ (many wrong p h (omega (arith, wrongs)) e)

pub length_voted : (row : List Bool) → length (voted row) ≡ length row
unfolding voted
length_voted row = length_row_from (λ p. bit_at row p ⊕ leb majority (odd_sums (parity_sums row) p)) 0 (length row)

pub bit_voted : (row : List Bool) (i : ℕ) → i < length row → bit_at (voted row) i ≡ bit_at row i ⊕ leb majority (odd_sums (parity_sums row) i)
unfolding voted
bit_voted row i h = get_or_row_from (λ p. bit_at row p ⊕ leb majority (odd_sums (parity_sums row) p)) (length row) i h

-- THE VOTE GIVES EVERY CODE WORD WITHIN EIGHT PLACES
pub vote_right : (row word : List Bool) → length row ≡ 272 → CodeWord word → distance row word ≤ most_corrected → voted row ≡ word
vote_right row word l w d =
    ext_get_or false (voted row) word (length_voted row ∙ l ∙ sym (code_length word w))
    (λ i h. bit_voted row i (rw (← length_voted row) h)
    ∙ ap (λ z. bit_at row i ⊕ z) (turned row word l w d i (omega (arith, length_voted row))) ∙ ⊕_twice (bit_at row i) (bit_at word i))

-- THERE IS NO SECOND ONE
pub only_word : (row word other : List Bool) → length row ≡ 272 → CodeWord word → CodeWord other → distance row word ≤ most_corrected → distance row other ≤ most_corrected → word ≡ other
only_word row word other l w v d e = sym (vote_right row word l w d) ∙ vote_right row other l v e

-- NINE PLACES AWAY FROM A CODE WORD THERE IS NONE WITHIN EIGHT: the vote turns every wrong place, so at least nine
pub nine_away : (row word : List Bool) → length row ≡ 272 → CodeWord word → distance row word ≡ 9 → (other : List Bool) → CodeWord other → distance row other ≤ most_corrected → ⊥
unfolding wrong
nine_away row word l w d other v e =
    omega (
      arith,
      wrongs row word l w,
      wrongs row other l v,
      sum_to_le 273 (λ p. bit (wrong row word l w p)) (λ p. bit (wrong row other l v p)) (λ p h. more p h),
    )
  where
    less : (a b : Bool) → (a ≡ true → b ≡ true) → bit a ≤ bit b
    less true b f = omega (arith, ap bit (f refl))
    less false b f = omega arith

    more : (p : ℕ) → p < 273 → bit (wrong row word l w p) ≤ bit (wrong row other l v p)
    more p h = less (wrong row word l w p) (wrong row other l v p) (λ t. sym (turned row other l v e p h) ∙ turned_wrong row word l w (omega arith) p h t)
