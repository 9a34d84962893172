-- The circle of 273 in words: rows on it, parity sums, and the sums that meet in a position. Assumes nothing.
use mathlib.Core.Path.{◌≡◌, refl, sym, ap, ◌∙◌}
use mathlib.Core.Bool.{Bool, true, false, ◌&&◌, ◌||◌, or-false, false≢true}
use mathlib.Core.List.{List, [], ◌∷◌}
use mathlib.Core.Logic.{◌↔◌}
use Prim.Native.Nat.{ℕ, ◌+◌, ◌-◌, ◌*◌, ◌/◌, ◌%◌, ◌^◌, ◌≤◌, ◌<◌}
use native.Mathlib.Nat.{mod-eq_of_lt, mod-lt, zero-add}
use native.Mathlib.Decide.{dec_lt}
use native.Mathlib.Omega.{arith}
use borrow.Author.Tests.{eq-eqb, eqb-true, lt-ltb, le-ltb}
use lib.Bits.{bit_or, or_lt}
use lib.Dec.{T, eqb, ltb, ltb→lt, lit<}
use lib.Ieee.Fits.{and_l, and_r}
use lib.ListN.{length, get_or, get_or-eq_default}
use Rattle.gf2.specs.Poly.{bit}
use Rattle.gf2.proofs.Lists.{length_row_from, get_or_row_from}
use Rattle.gf2.proofs.Tested.{tested}
use Rattle.code.specs.Code.{CodeWord}
use Rattle.code.specs.Vote.{bit_at, parity_over, sum_over, check_positions, parity_sum, parity_sums, odd_sums}
use Rattle.code.proofs.Sums.{in_below, parity_over_cong, sum_over_cong}
use Rattle.code.proofs.Computed.{positions_below}
use Rattle.code.proofs.Orthogonal.{code_even}
use Rattle.code.proofs.Spanned.{even_code}
use Rattle.words.specs.Bytes.{bit_of, bit_in}
use Rattle.words.specs.Circle.{Holds, Lies, Round}
use Rattle.words.proofs.Bytes.{bit_of_zero, bits_once}
use Rattle.words.proofs.Shifts.{bit_of_or, bit_of_mod, bit_of_high, bit_of_shl, bit_of_shl_low, joined_low, joined_high}
use Rattle.words.proofs.Words.{Held, bit_in_lem, held_at, lying}

-- A PART: 64 places that begin inside a word
pub part_at : (ws : List ℕ) (at k : ℕ) → 0 < at % 64 → k < 64 → get_or ws (at / 64) 0 < 2 ^ 64
    → bit_of (bit_or (get_or ws (at / 64) 0 / 2 ^ (at % 64)) (get_or ws (at / 64 + 1) 0 * 2 ^ (64 - at % 64) % 2 ^ 64)) k ≡ bit_in 64 ws (at + k)
part_at ws at k h l f =
    elim (dec_lt (k + at % 64) 64) [
      | yes g ↦ joined_low (get_or ws (at / 64) 0) (get_or ws (at / 64 + 1) 0) (at % 64) k g ∙ bit_in_lem ws (at / 64) (at % 64 + k) (omega arith) ∙ ap (bit_in 64 ws) (omega arith)
      | no g ↦
          joined_high (get_or ws (at / 64) 0) (get_or ws (at / 64 + 1) 0) (at % 64) k f (mod-lt at (lit< tt)) (omega arith) l
          ∙ bit_in_lem ws (at / 64 + 1) (k + at % 64 - 64) (omega arith) ∙ ap (bit_in 64 ws) (omega arith)
    ]

-- a check position is on the circle, and not at the edge of a word, counted forward or back
abbrev inside : ℕ → Bool
inside s = ltb s 273 && (ltb 0 (s % 64) && ltb 0 ((273 - s) % 64))

pub record Inside (s : ℕ) : Type 0 where
  pub on : s < 273
  pub forward : 0 < s % 64
  pub back : 0 < (273 - s) % 64

is_inside : (s : ℕ) → T (inside s) → Inside s
is_inside s t =
    let edges : T (ltb 0 (s % 64) && ltb 0 ((273 - s) % 64)) = and_r (ltb s 273) (ltb 0 (s % 64) && ltb 0 ((273 - s) % 64)) t in
    record {
      on = ltb→lt s 273 (and_l (ltb s 273) (ltb 0 (s % 64) && ltb 0 ((273 - s) % 64)) t);
      forward = ltb→lt 0 (s % 64) (and_l (ltb 0 (s % 64)) (ltb 0 ((273 - s) % 64)) edges);
      back = ltb→lt 0 ((273 - s) % 64) (and_r (ltb 0 (s % 64)) (ltb 0 ((273 - s) % 64)) edges);
    }

pub position_inside : (positions : List ℕ) (l : ℕ) → positions ≡ check_positions → l < 17 → Inside (get_or positions l 0)
unfolding check_positions
position_inside positions l e h = rw e (is_inside (get_or check_positions l 0) (tested 17 (λ n. inside (get_or check_positions n 0)) tt l h))

-- two rounds, and nothing behind them
abbrev rounds : List Bool → ℕ → Bool
rounds bits p = ltb p 546 && bit_at bits (p % 273)

-- A ROW TWICE ROUND, over any row of at most 273 places
module _ (row : List ℕ) (bits : List Bool) (l : length bits ≤ 273) (lies : Lies row bits) where
  -- a word of the first or of the second round
  round_word : (w q p : ℕ) → Holds w (bit_in 64 row) q → ((k : ℕ) → k < 64 → (p + k < 546) × ((p + k) % 273 ≡ q + k)) → Holds w (rounds bits) p
  round_word w q p h on k g = h k g ∙ lies (q + k) ∙ (λ i. sym (lt-ltb (p + k) 546 (on k g).0) i && bit_at bits (sym (on k g).1 i))

  -- the word in which the second begins
  seam : Holds (bit_or (get_or row 4 0) (get_or row 0 0 * 2 ^ 17 % 2 ^ 64)) (rounds bits) 256
  seam k h =
      bit_of_or (get_or row 4 0) (get_or row 0 0 * 2 ^ 17 % 2 ^ 64) k
      ∙ elim (dec_lt k 17) [
        | yes g ↦
            ap (λ z. bit_of (get_or row 4 0) k || z) (bit_of_mod (get_or row 0 0 * 2 ^ 17) 64 k h ∙ bit_of_shl_low (get_or row 0 0) 17 k g)
            ∙ or-false (bit_of (get_or row 4 0) k) ∙ bit_in_lem row 4 k h ∙ lies (256 + k) ∙ ap (bit_at bits) (sym (mod-eq_of_lt (omega arith)))
        | no g ↦
            let e : k ≡ 17 + (k - 17) = omega arith in
            (λ i. (bit_in_lem row 4 k h ∙ lies (256 + k) ∙ get_or-eq_default bits false {n = 256 + k} (omega arith)) i
            || (bit_of_mod (get_or row 0 0 * 2 ^ 17) 64 k h ∙ ap (bit_of (get_or row 0 0 * 2 ^ 17)) e ∙ bit_of_shl (get_or row 0 0) 17 (k - 17)) i)
            ∙ bit_in_lem row 0 (k - 17) (omega arith) ∙ lies (0 + (k - 17)) ∙ ap (bit_at bits) (omega arith)
      ]
      ∙ (λ i. sym (lt-ltb (256 + k) 546 (omega arith)) i && bit_at bits ((256 + k) % 273))

  -- the word in which it ends
  last : (w : ℕ) → Holds w (bit_in 64 row) 239 → Holds w (rounds bits) 512
  last w h k g =
      h k g ∙ lies (239 + k)
      ∙ elim (dec_lt k 34) [
        | yes m ↦
            let e : 239 + k ≡ (512 + k) % 273 = omega arith in
            (λ i. sym (lt-ltb (512 + k) 546 (omega arith)) i && bit_at bits (e i))
        | no m ↦ get_or-eq_default bits false {n = 239 + k} (omega arith) ∙ (λ i. sym (le-ltb (512 + k) 546 (omega arith)) i && bit_at bits ((512 + k) % 273))
      ]

  pub laid : (w₅ w₆ w₇ w₈ : ℕ) → Holds w₅ (bit_in 64 row) 47 → Holds w₆ (bit_in 64 row) 111 → Holds w₇ (bit_in 64 row) 175 → Holds w₈ (bit_in 64 row) 239
      → Round (get_or row 0 0 ∷ get_or row 1 0 ∷ get_or row 2 0 ∷ get_or row 3 0 ∷ bit_or (get_or row 4 0) (get_or row 0 0 * 2 ^ 17 % 2 ^ 64) ∷ w₅ ∷ w₆ ∷ w₇ ∷ w₈ ∷ 0 ∷ []) bits
  laid w₅ w₆ w₇ w₈ h₅ h₆ h₇ h₈ = (
    refl,
    λ p h. held_at (rounds bits) ten 0 p held (omega arith) ∙ ap (rounds bits) (zero-add p) ∙ ap (λ z. z && bit_at bits (p % 273)) (lt-ltb p 546 h),
  )
    where
      ten : List ℕ
      ten = get_or row 0 0 ∷ get_or row 1 0 ∷ get_or row 2 0 ∷ get_or row 3 0 ∷ bit_or (get_or row 4 0) (get_or row 0 0 * 2 ^ 17 % 2 ^ 64) ∷ w₅ ∷ w₆ ∷ w₇ ∷ w₈ ∷ 0 ∷ []

      front : (i : ℕ) → i < 4 → Holds (get_or row i 0) (rounds bits) (64 * i)
      front i g = round_word (get_or row i 0) (64 * i) (64 * i) (bit_in_lem row i) (λ k m. (omega arith, mod-eq_of_lt (omega arith)))

      behind : (w m : ℕ) → m < 3 → Holds w (bit_in 64 row) (47 + 64 * m) → Holds w (rounds bits) (320 + 64 * m)
      behind w m g h = round_word w (47 + 64 * m) (320 + 64 * m) h (λ k n. (omega arith, omega arith))

      nothing : Holds 0 (rounds bits) 576
      nothing k g = bit_of_zero k ∙ (λ i. sym (le-ltb (576 + k) 546 (omega arith)) i && bit_at bits ((576 + k) % 273))

      held : Held (rounds bits) 0 ten
      held = (
        front 0 (lit< tt),
        (front 1 (lit< tt), (front 2 (lit< tt), (front 3 (lit< tt), (seam, (behind w₅ 0 (lit< tt) h₅, (behind w₆ 1 (lit< tt) h₆, (behind w₇ 2 (lit< tt) h₇, (last w₈ h₈, (nothing, tt))))))))),
      )

-- SUMS AND VOTES BY THE WORDS OF A CIRCLE, over any row on it
module _ (round : List ℕ) (bits : List Bool) (twice : Round round bits) where
  pub sum_round : (t : ℕ) → t < 273 → parity_over (λ s. bit_in 64 round (t + s)) check_positions ≡ parity_sum bits t
  unfolding parity_sum
  sum_round t h =
      parity_over_cong (λ s. bit_in 64 round (t + s)) (λ s. bit_at bits ((t + s) % 273)) check_positions
      (λ s i. let b : s < 273 = in_below 273 s check_positions positions_below i in
      twice.1 (t + s) (omega arith))

  pub meet_round : (p : ℕ) → p < 273 → sum_over (λ s. bit (bit_in 64 round (p + 273 - s))) check_positions ≡ odd_sums bits p
  unfolding odd_sums
  meet_round p h =
      sum_over_cong (λ s. bit (bit_in 64 round (p + 273 - s))) (λ s. bit (bit_at bits ((p + 273 - s) % 273))) check_positions
      (λ s i. ap bit (twice.1 (p + 273 - s) (omega arith)))

-- 64 sums of a row in a word, from shift p on, as far as there are any
abbrev pub SumsFrom : ℕ → List Bool → ℕ → Type 0
SumsFrom word bits p = (k : ℕ) → k < 64 → p + k < 273 → bit_of word k ≡ parity_sum bits (p + k)

-- ALL SUMS, as a row
pub length_sums : (bits : List Bool) → length (parity_sums bits) ≡ 273
unfolding parity_sums
length_sums bits = length_row_from (parity_sum bits) 0 273

pub sums_lie : (bits : List Bool) (a b c d e : ℕ) → SumsFrom a bits 0 → SumsFrom b bits 64 → SumsFrom c bits 128 → SumsFrom d bits 192 → SumsFrom e bits 256
    → Lies (a ∷ b ∷ c ∷ d ∷ e % 2 ^ 17 ∷ []) (parity_sums bits)
unfolding parity_sums
sums_lie bits a b c d e ha hb hc hd he =
    lying (a ∷ b ∷ c ∷ d ∷ e % 2 ^ 17 ∷ []) (parity_sums bits)
    (whole a 0 (lit< tt) ha, (whole b 64 (lit< tt) hb, (whole c 128 (lit< tt) hc, (whole d 192 (lit< tt) hd, (last, tt)))))
    (omega (arith, length_sums bits))
  where
    sum_at : (t : ℕ) → t < 273 → parity_sum bits t ≡ bit_at (parity_sums bits) t
    sum_at t h = sym (get_or_row_from (parity_sum bits) 273 t h)

    whole : (w p : ℕ) → p < 210 → SumsFrom w bits p → Holds w (bit_at (parity_sums bits)) p
    whole w p l h k g = h k g (omega arith) ∙ sum_at (p + k) (omega arith)

    last : Holds (e % 2 ^ 17) (bit_at (parity_sums bits)) 256
    last k g =
        elim (dec_lt k 17) [
          | yes l ↦ bit_of_mod e 17 k l ∙ he k g (omega arith) ∙ sum_at (256 + k) (omega arith)
          | no l ↦
              bit_of_high (e % 2 ^ 17) 17 k (mod-lt e (lit< tt)) (omega arith)
              ∙ sym (get_or-eq_default (parity_sums bits) false {n = 256 + k} (omega (arith, length_sums bits)))
        ]

-- THE TEST FOR A CODE WORD: the first 128 sums are even
pub even_tested : (bits : List Bool) (a b : ℕ) → length bits ≡ 272 → a < 2 ^ 64 → b < 2 ^ 64 → SumsFrom a bits 0 → SumsFrom b bits 64 → (eqb (bit_or a b) 0 ≡ true) ↔ CodeWord bits
even_tested bits a b long ha hb first second = (λ e. even_code bits 0 long (λ t h. even e t h), none)
  where
    or_left : (x y : Bool) → (x || y) ≡ false → x ≡ false
    or_left false y e = refl
    or_left true y e = e

    or_right : (x y : Bool) → (x || y) ≡ false → y ≡ false
    or_right false y e = e
    or_right true y e = absurd (false≢true (sym e))

    even : eqb (bit_or a b) 0 ≡ true → (t : ℕ) → t < 82 → parity_sum bits (0 + t) ≡ false
    even e t h =
        let zero_at : (k : ℕ) → (bit_of a k || bit_of b k) ≡ false = λ k. sym (bit_of_or a b k) ∙ ap (λ (x : ℕ). bit_of x k) (eqb-true (bit_or a b) 0 e) ∙ bit_of_zero k in
        elim (dec_lt t 64) [
          | yes l ↦ sym (first t l (omega arith)) ∙ or_left (bit_of a t) (bit_of b t) (zero_at t)
          | no l ↦
              let at : 0 + t ≡ 64 + (t - 64) = omega arith in
              ap (parity_sum bits) at ∙ sym (second (t - 64) (omega arith) (omega arith)) ∙ or_right (bit_of a (t - 64)) (bit_of b (t - 64)) (zero_at (t - 64))
        ]

    none : CodeWord bits → eqb (bit_or a b) 0 ≡ true
    none w =
        eq-eqb (bit_or a b) 0 (bits_once 64 (bit_or a b) 0 (or_lt 64 a b ha hb) (lit< tt)
        (λ k l. bit_of_or a b k ∙ (λ i. (first k l (omega arith) ∙ code_even bits w (0 + k)) i || (second k l (omega arith) ∙ code_even bits w (64 + k)) i) ∙ sym (bit_of_zero k)))
