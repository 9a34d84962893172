-- What was seen decides what is found. Assumes nothing.
use mathlib.Core.Path.{◌≡◌, refl, sym, ap, ◌∙◌, subst}
use mathlib.Core.Bool.{Bool, false}
use mathlib.Core.List.{List, [], ◌∷◌}
use Prim.Native.Nat.{ℕ, zero, suc, ◌+◌, ◌*◌, ◌%◌, ◌^◌, ◌≤◌, ◌<◌}
use native.Mathlib.Nat.{mod-lt}
use native.Mathlib.Decide.{dec_lt}
use native.Mathlib.Omega.{arith}
use lib.Bits.{bit_xor}
use lib.Dec.{lit<}
use lib.ListN.{length, get_or, replicate, get_or-eq_default}
use lib.Seq.{ext_get_or}
use Rattle.gf2.specs.Poly.{◌⊕◌}
use Rattle.gf2.proofs.Remainders.{add_twice, add_self, length_add}
use Rattle.code.specs.Code.{CodeWord, difference, ones, distance, most_corrected}
use Rattle.code.specs.Vote.{bit_at, parity_sums, voted}
use Rattle.code.proofs.Majority.{length_voted, bit_voted}
use Rattle.code.proofs.Accepted.{accepts}
use Rattle.std.specs.Prelude.{Some}
use Rattle.words.specs.Bytes.{bit_of, bit_in, row_of}
use Rattle.words.specs.Words.{FiveWords, row_of_words, zero_words}
use Rattle.words.specs.Near.{Near, NoneNear, Searched}
use Rattle.words.specs.Circle.{Holds, Lies, turned}
use Rattle.words.proofs.Bytes.{length_bits_of, get_or_bits_of}
use Rattle.words.proofs.Shifts.{bit_of_xor, bit_of_mod, bit_of_high}
use Rattle.words.proofs.Words.{bit_at_add, bit_in_lem, lying, length_row, bit_row, five_lies, zero_row, zero_five}
use Rattle.words.proofs.Counts.{length_turned, bit_turned}

-- FIVE WORDS FROM ANYWHERE, without the bits behind the last place
pub given_lies : (ws : List ℕ) → length ws ≡ 5 → Lies (get_or ws 0 0 ∷ get_or ws 1 0 ∷ get_or ws 2 0 ∷ get_or ws 3 0 ∷ get_or ws 4 0 % 2 ^ 16 ∷ []) (row_of_words ws)
given_lies ws l =
    lying (get_or ws 0 0 ∷ get_or ws 1 0 ∷ get_or ws 2 0 ∷ get_or ws 3 0 ∷ get_or ws 4 0 % 2 ^ 16 ∷ []) (row_of_words ws)
    (whole 0 (lit< tt), (whole 1 (lit< tt), (whole 2 (lit< tt), (whole 3 (lit< tt), (last, tt))))) (omega (arith, length_row ws l))
  where
    whole : (i : ℕ) → i < 4 → Holds (get_or ws i 0) (bit_at (row_of_words ws)) (64 * i)
    whole i h k g = bit_in_lem ws i k g ∙ sym (bit_row ws (64 * i + k) l (omega arith))

    last : Holds (get_or ws 4 0 % 2 ^ 16) (bit_at (row_of_words ws)) 256
    last k g =
        elim (dec_lt k 16) [
          | yes h ↦ bit_of_mod (get_or ws 4 0) 16 k h ∙ bit_in_lem ws 4 k g ∙ sym (bit_row ws (256 + k) l (omega arith))
          | no h ↦
              bit_of_high (get_or ws 4 0 % 2 ^ 16) 16 k (mod-lt (get_or ws 4 0) (lit< tt)) (omega arith)
              ∙ sym (get_or-eq_default (row_of_words ws) false {n = 256 + k} (omega (arith, length_row ws l)))
        ]

-- THE WORDS OF A BLOCK'S BYTES
pub block_lies : (bytes : List ℕ) (a b c d e : ℕ) → length bytes ≡ 34 → Holds a (bit_in 8 bytes) 0 → Holds b (bit_in 8 bytes) 64 → Holds c (bit_in 8 bytes) 128
    → Holds d (bit_in 8 bytes) 192 → ((k : ℕ) → k < 16 → bit_of e k ≡ bit_in 8 bytes (256 + k)) → ((k : ℕ) → 16 ≤ k → bit_of e k ≡ false)
    → Lies (a ∷ b ∷ c ∷ d ∷ e ∷ []) (row_of bytes)
block_lies bytes a b c d e l ha hb hc hd he none =
    lying (a ∷ b ∷ c ∷ d ∷ e ∷ []) (row_of bytes) (whole a 0 (lit< tt) ha, (whole b 64 (lit< tt) hb, (whole c 128 (lit< tt) hc, (whole d 192 (lit< tt) hd, (last, tt)))))
    (omega (arith, length_bits_of 8 bytes))
  where
    whole : (w p : ℕ) → p < 209 → Holds w (bit_in 8 bytes) p → Holds w (bit_at (row_of bytes)) p
    whole w p h holds k g = holds k g ∙ sym (get_or_bits_of 8 bytes (p + k) (omega arith))

    last : Holds e (bit_at (row_of bytes)) 256
    last k g =
        elim (dec_lt k 16) [
          | yes h ↦ he k h ∙ sym (get_or_bits_of 8 bytes (256 + k) (omega arith))
          | no h ↦ none k (omega arith) ∙ sym (get_or-eq_default (row_of bytes) false {n = 256 + k} (omega (arith, length_bits_of 8 bytes)))
        ]

-- A ROW WITH SOME PLACES CHANGED
pub sum_lies : (xs ys : List ℕ) → FiveWords xs → FiveWords ys
    → Lies (bit_xor (get_or xs 0 0) (get_or ys 0 0) ∷ bit_xor (get_or xs 1 0) (get_or ys 1 0) ∷ bit_xor (get_or xs 2 0) (get_or ys 2 0) ∷ bit_xor (get_or xs 3 0) (get_or ys 3 0) ∷ bit_xor (get_or xs 4 0) (get_or ys 4 0) ∷ [])
    (difference (row_of_words xs) (row_of_words ys))
sum_lies xs ys u v =
    lying words (difference (row_of_words xs) (row_of_words ys)) (word 0, (word 1, (word 2, (word 3, (word 4, tt)))))
    (omega (arith, length_add (row_of_words xs) (row_of_words ys), length_row ys v.five))
  where
    words : List ℕ
    words = bit_xor (get_or xs 0 0) (get_or ys 0 0) ∷ bit_xor (get_or xs 1 0) (get_or ys 1 0) ∷ bit_xor (get_or xs 2 0) (get_or ys 2 0) ∷ bit_xor (get_or xs 3 0) (get_or ys 3 0) ∷ bit_xor (get_or xs 4 0) (get_or ys 4 0) ∷ []

    word : (i : ℕ) → Holds (bit_xor (get_or xs i 0) (get_or ys i 0)) (bit_at (difference (row_of_words xs) (row_of_words ys))) (64 * i)
    word i k g =
        bit_of_xor (get_or xs i 0) (get_or ys i 0) k
        ∙ (λ t. (bit_in_lem xs i k g ∙ five_lies xs u (64 * i + k)) t ⊕ (bit_in_lem ys i k g ∙ five_lies ys v (64 * i + k)) t)
        ∙ bit_at_add (row_of_words xs) (row_of_words ys) (64 * i + k) (length_row xs u.five ∙ sym (length_row ys v.five))

-- a row has no ones where it is zero
ones_zeros : (n : ℕ) → ones (replicate n false) ≡ 0
ones_zeros zero = refl
ones_zeros (suc n) = omega (arith, ones_zeros n)

-- a row differs from itself nowhere
pub distance_self : (row : List Bool) → distance row row ≡ 0
distance_self row = ap ones (add_self row) ∙ ones_zeros (length row)

module _ (row : List Bool) (l : length row ≡ 272) where
  -- the voted row is the row with the places changed that the vote turns, and these are its difference from the row
  voted_is : voted row ≡ difference row (turned (parity_sums row))
  voted_is =
      ext_get_or false (voted row) (difference row (turned (parity_sums row)))
      (length_voted row ∙ l ∙ sym (length_add row (turned (parity_sums row)) ∙ length_turned (parity_sums row)))
      (λ p h. let g : p < 272 = omega (arith, length_voted row) in
      bit_voted row p (omega arith) ∙ ap (λ z. bit_at row p ⊕ z) (sym (bit_turned (parity_sums row) p g))
      ∙ bit_at_add row (turned (parity_sums row)) p (l ∙ sym (length_turned (parity_sums row))))

  voted_changes : difference row (voted row) ≡ turned (parity_sums row)
  voted_changes = ap (difference row) voted_is ∙ add_twice row (turned (parity_sums row))

  same_zeros : difference row row ≡ replicate 272 false
  same_zeros = add_self row ∙ ap (λ (n : ℕ). replicate n false) l

  -- THE ROW ITSELF IS A CODE WORD
  pub clean_near : CodeWord row → Near row row 0 zero_words
  clean_near code = record {
    code = code;
    near = omega (arith, distance_self row);
    words = zero_five;
    places = zero_row ∙ sym same_zeros;
    counts = sym (ap ones zero_row ∙ ones_zeros 272);
  }

  -- THE VOTE TURNS FEW PLACES, and the voted row is a code word
  pub voted_near : (count : ℕ) (changed : List ℕ) → FiveWords changed → row_of_words changed ≡ turned (parity_sums row) → count ≡ ones (turned (parity_sums row))
      → ones (turned (parity_sums row)) ≤ most_corrected → CodeWord (voted row) → Near row (voted row) count changed
  voted_near count changed five places counts few code = record {
    code = code;
    near = omega (arith, ap ones voted_changes);
    words = five;
    places = places ∙ sym voted_changes;
    counts = counts ∙ ap ones (sym places);
  }

  -- it turns more, or leaves none: then there is none near
  pub many_none : most_corrected < ones (turned (parity_sums row)) → NoneNear row
  many_none many word code near = omega (arith, ap ones voted_changes, ((accepts row l).1 (word, code, near)).1)

  pub voted_none : (CodeWord (voted row) → ⊥) → NoneNear row
  voted_none none word code near = none ((accepts row l).1 (word, code, near)).0

  -- the voted row by its words
  pub voted_word : (changed given word : List ℕ) → row_of_words given ≡ row → row_of_words changed ≡ turned (parity_sums row) → row_of_words word ≡ difference (row_of_words given) (row_of_words changed) → row_of_words word ≡ voted row
  voted_word changed given word same places sum = sum ∙ (λ i. difference (same i) (places i)) ∙ sym voted_is

  -- WHAT IS FOUND, with a code word
  pub found_clean : (given : List ℕ) → FiveWords given → row_of_words given ≡ row → CodeWord row → Searched row (Some (record { word = given; count = 0; changed = zero_words }))
  found_clean given five same code = (five, subst (λ (w : List Bool). Near row w 0 zero_words) (sym same) (clean_near code))

  pub found_voted : (count : ℕ) (changed given word : List ℕ) → row_of_words given ≡ row → FiveWords changed → row_of_words changed ≡ turned (parity_sums row) → count ≡ ones (turned (parity_sums row))
      → ones (turned (parity_sums row)) ≤ most_corrected → FiveWords word × (row_of_words word ≡ difference (row_of_words given) (row_of_words changed)) → CodeWord (row_of_words word)
      → Searched row (Some (record { word = word; count = count; changed = changed }))
  found_voted count changed given word same five places counts few sum code =
      let is : row_of_words word ≡ voted row = voted_word changed given word same places sum.1 in
      (sum.0, subst (λ (w : List Bool). Near row w count changed) (sym is) (voted_near count changed five places counts few (subst CodeWord is code)))

-- near a row is near the same row
pub of_row : {row other word : List Bool} {count : ℕ} {changed : List ℕ} → row ≡ other → Near row word count changed → Near other word count changed
of_row {row} {other} {word} {count} {changed} e near = subst (λ (x : List Bool). Near x word count changed) e near
