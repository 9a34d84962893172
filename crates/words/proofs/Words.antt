-- Words of 64 bits and the row that they are: place by place, and the count of its ones. Assumes nothing.
use mathlib.Core.Path.{◌≡◌, refl, sym, ap, ◌∙◌}
use mathlib.Core.Bool.{Bool, false}
use mathlib.Core.List.{List, [], ◌∷◌, ◌++◌}
use mathlib.Core.Logic.{◌≢◌}
use Prim.Native.Nat.{ℕ, zero, suc, ◌+◌, ◌-◌, ◌*◌, ◌/◌, ◌%◌, ◌^◌, ◌≤◌, ◌<◌}
use native.Mathlib.Nat.{pow-succ', mod-eq_of_lt, zero-add, add-zero}
use native.Mathlib.Decide.{ℕ_discrete, dec_lt}
use native.Mathlib.Omega.{arith}
use lib.Count as count
use lib.Count.{ones_step}
use lib.Dec.{eqb, lit<}
use lib.ListN.{length, get_or, set, take, drop, replicate, length-append, take-append-drop, get_or-eq_default}
use lib.Pow.{shr-shr}
use lib.Seq.{ext_get_or, get_or-take, get_or-drop, get_or-set_same, get_or-set_other, length-take-le, take_at, drop_at}
use Rattle.gf2.specs.Poly.{bit, ◌⊕◌, row_from, add}
use Rattle.gf2.proofs.Lists.{row_cong}
use Rattle.code.specs.Code.{ones}
use Rattle.code.specs.Vote.{bit_at}
use Rattle.words.specs.Bytes.{bit_of, bit_in, bits_of}
use Rattle.words.specs.Circle.{Holds, Lies}
use Rattle.words.specs.Words.{FiveWords, row_of_words, zero_words}
use Rattle.words.proofs.Bytes.{length_bits_of, get_or_bits_of, bit_of_zero, bit_of_half, lowest_bit, bits_once, numbers_once}

-- every element of `replicate n a` is a, and what stands past its end
pub same_at : {A : Type 0} (a : A) (n i : ℕ) → get_or (replicate n a) i a ≡ a
same_at a zero i = refl
same_at a (suc n) zero = refl
same_at a (suc n) (suc i) = same_at a n i

-- A ROW DETERMINES ITS FIVE WORDS
pub words_once : (xs ys : List ℕ) → FiveWords xs → FiveWords ys → row_of_words xs ≡ row_of_words ys → xs ≡ ys
words_once xs ys u v e =
    numbers_once 64 xs ys u.below v.below (u.five ∙ sym v.five)
    (sym (take-append-drop 272 (bits_of 64 xs)) ∙ (λ i. e i ++ (u.top ∙ sym v.top) i) ∙ take-append-drop 272 (bits_of 64 ys))

-- the zero row
pub zero_row : row_of_words zero_words ≡ replicate 272 false
unfolding bits_of bit_of
zero_row = refl

pub zero_five : FiveWords zero_words
unfolding bits_of bit_of
zero_five = record { five = refl; below = λ i. rw (same_at {A = ℕ} 0 5 i) (lit< tt); top = refl }

-- the sum of two rows, place by place
pub bit_at_add : (row word : List Bool) (j : ℕ) → length row ≡ length word → bit_at row j ⊕ bit_at word j ≡ bit_at (add row word) j
bit_at_add [] [] j l = refl
bit_at_add [] (y ∷ ys) j l = absurd (omega arith)
bit_at_add (x ∷ xs) [] j l = absurd (omega arith)
bit_at_add (x ∷ xs) (y ∷ ys) zero l = refl
bit_at_add (x ∷ xs) (y ∷ ys) (suc j) l = bit_at_add xs ys j (omega arith)

bit_at_padded : (row : List Bool) (n j : ℕ) → bit_at (row ++ replicate n false) j ≡ bit_at row j
bit_at_padded [] n j = same_at false n j
bit_at_padded (x ∷ row) n zero = refl
bit_at_padded (x ∷ row) n (suc j) = bit_at_padded row n j

-- the bits of a word are places of its row, and there are none behind the last
pub bit_in_lem : (ws : List ℕ) (i k : ℕ) → k < 64 → bit_of (get_or ws i 0) k ≡ bit_in 64 ws (64 * i + k)
bit_in_lem ws i k h =
    let q : i ≡ (64 * i + k) / 64 = omega arith in
    let r : k ≡ (64 * i + k) % 64 = omega arith in
    λ t. bit_of (get_or ws (q t) 0) (r t)

behind_last : (ws : List ℕ) (p : ℕ) → 64 * length ws ≤ p → bit_in 64 ws p ≡ false
behind_last ws p h = ap (λ (w : ℕ). bit_of w (p % 64)) (get_or-eq_default ws 0 {n = p / 64} (omega arith)) ∙ bit_of_zero (p % 64)

-- words one after another hold the values of f from place p on
abbrev pub Held : (ℕ → Bool) → ℕ → List ℕ → Type 0
Held f p [] = Unit {0}
Held f p (w ∷ ws) = Holds w f p × Held f (p + 64) ws

pub held_at : (f : ℕ → Bool) (ws : List ℕ) (p j : ℕ) → Held f p ws → j < 64 * length ws → bit_in 64 ws j ≡ f (p + j)
held_at f [] p j h l = absurd (omega arith)
held_at f (w ∷ ws) p j h l =
    elim (dec_lt j 64) [
      | yes g ↦
          let q : j / 64 ≡ 0 = omega arith in
          (λ t. bit_of (get_or (w ∷ ws) (q t) 0) (mod-eq_of_lt g t)) ∙ h.0 j g
      | no g ↦
          let q : j / 64 ≡ suc ((j - 64) / 64) = omega arith in
          let r : j % 64 ≡ (j - 64) % 64 = omega arith in
          (λ t. bit_of (get_or (w ∷ ws) (q t) 0) (r t)) ∙ held_at f ws (p + 64) (j - 64) h.1 (omega arith) ∙ ap f (omega arith)
    ]

-- A ROW THAT WORDS HOLD lies in them, and of five words it is their row
pub lying : (ws : List ℕ) (row : List Bool) → Held (bit_at row) 0 ws → length row ≤ 64 * length ws → Lies ws row
lying ws row h l p =
    elim (dec_lt p (64 * length ws)) [
      | yes g ↦ held_at (bit_at row) ws 0 p h g ∙ ap (bit_at row) (zero-add p)
      | no g ↦ behind_last ws p (omega arith) ∙ sym (get_or-eq_default row false {n = p} (omega arith))
    ]

pub length_row : (ws : List ℕ) → length ws ≡ 5 → length (row_of_words ws) ≡ 272
length_row ws l = length-take-le 272 (bits_of 64 ws) (omega (arith, length_bits_of 64 ws))

pub bit_row : (ws : List ℕ) (p : ℕ) → length ws ≡ 5 → p < 272 → bit_at (row_of_words ws) p ≡ bit_in 64 ws p
bit_row ws p l h = get_or-take 272 (bits_of 64 ws) p false h ∙ get_or_bits_of 64 ws p (omega arith)

pub lies_five : (ws : List ℕ) (row : List Bool) → length ws ≡ 5 → ((i : ℕ) → get_or ws i 0 < 2 ^ 64) → length row ≡ 272 → Lies ws row → FiveWords ws × (row_of_words ws ≡ row)
lies_five ws row l below long lies = (
  record { five = l; below = below; top = ap (drop 272) whole ∙ drop_at row (replicate 48 false) 272 long },
  ap (take 272) whole ∙ take_at row (replicate 48 false) 272 long,
)
  where
    whole : bits_of 64 ws ≡ row ++ replicate 48 false
    whole =
        ext_get_or false (bits_of 64 ws) (row ++ replicate 48 false) (length_bits_of 64 ws ∙ omega (arith, length-append row (replicate 48 false)))
        (λ j h. get_or_bits_of 64 ws j (omega (arith, length_bits_of 64 ws)) ∙ lies j ∙ sym (bit_at_padded row 48 j))

pub five_lies : (ws : List ℕ) → FiveWords ws → Lies ws (row_of_words ws)
five_lies ws f p =
    elim (dec_lt p 272) [
      | yes h ↦ sym (bit_row ws p f.five h)
      | no h ↦ top p h ∙ sym (get_or-eq_default (row_of_words ws) false {n = p} (omega (arith, length_row ws f.five)))
    ]
  where
    top : (p : ℕ) → (p < 272 → ⊥) → bit_in 64 ws p ≡ false
    top p h =
        elim (dec_lt p 320) [
          | yes l ↦
              let e : 272 + (p - 272) ≡ p = omega arith in
              sym (get_or_bits_of 64 ws p (omega (arith, f.five))) ∙ ap (λ (n : ℕ). get_or (bits_of 64 ws) n false) (sym e)
              ∙ sym (get_or-drop 272 (bits_of 64 ws) (p - 272) false) ∙ ap (λ row. get_or row (p - 272) false) f.top ∙ same_at false 48 (p - 272)
          | no l ↦ behind_last ws p (omega (arith, f.five))
        ]

-- five words of 64 bits
pub five_below : (a b c d e : ℕ) → a < 2 ^ 64 → b < 2 ^ 64 → c < 2 ^ 64 → d < 2 ^ 64 → e < 2 ^ 64 → (i : ℕ) → get_or (a ∷ b ∷ c ∷ d ∷ e ∷ []) i 0 < 2 ^ 64
five_below a b c d e ha hb hc hd he zero = ha
five_below a b c d e ha hb hc hd he (suc zero) = hb
five_below a b c d e ha hb hc hd he (suc (suc zero)) = hc
five_below a b c d e ha hb hc hd he (suc (suc (suc zero))) = hd
five_below a b c d e ha hb hc hd he (suc (suc (suc (suc zero)))) = he
five_below a b c d e ha hb hc hd he (suc (suc (suc (suc (suc i))))) = lit< tt

-- A WORD MORE IS STORED
module _ (ws : List ℕ) (i w : ℕ) (h : i < length ws) where
  pub stored_below : w < 2 ^ 64 → ((j : ℕ) → get_or ws j 0 < 2 ^ 64) → (j : ℕ) → get_or (set ws i w) j 0 < 2 ^ 64
  stored_below small below j =
      elim (ℕ_discrete j i) [
        | yes q ↦ rw (q, get_or-set_same ws i w 0 h) small
        | no q ↦ rw (get_or-set_other ws i j w 0 q) (below j)
      ]

  elsewhere : (p : ℕ) → p / 64 ≢ i → bit_in 64 (set ws i w) p ≡ bit_in 64 ws p
  elsewhere p n = ap (λ (x : ℕ). bit_of x (p % 64)) (get_or-set_other ws i (p / 64) w 0 n)

  pub stored_front : (f : ℕ → Bool) → Holds w f (64 * i) → ((p : ℕ) → p < 64 * i → bit_in 64 ws p ≡ f p) → (p : ℕ) → p < 64 * (i + 1) → bit_in 64 (set ws i w) p ≡ f p
  stored_front f new old p l =
      elim (dec_lt p (64 * i)) [
        | yes g ↦ elsewhere p (λ e. omega arith) ∙ old p g
        | no g ↦
            let q : p / 64 ≡ i = omega arith in
            let e : 64 * i + p % 64 ≡ p = omega arith in
            (λ t. bit_of (get_or (set ws i w) (q t) 0) (p % 64)) ∙ ap (λ (x : ℕ). bit_of x (p % 64)) (get_or-set_same ws i w 0 h) ∙ new (p % 64) (omega arith) ∙ ap f e
      ]

  pub stored_behind : ((p : ℕ) → 64 * i ≤ p → bit_in 64 ws p ≡ false) → (p : ℕ) → 64 * (i + 1) ≤ p → bit_in 64 (set ws i w) p ≡ false
  stored_behind old p l = elsewhere p (λ e. omega arith) ∙ old p (omega arith)

pub none_stored : (p : ℕ) → bit_in 64 (replicate 5 0) p ≡ false
none_stored p = ap (λ (w : ℕ). bit_of w (p % 64)) (same_at {A = ℕ} 0 5 (p / 64)) ∙ bit_of_zero (p % 64)

-- THE COUNT OF A WORD'S ONES is the number of ones in the part of a row that it holds
word_ones : (n x : ℕ) → x < 2 ^ n → count.ones x ≡ ones (row_from (bit_of x) 0 n)
unfolding count.ones count.ones_in
word_ones zero x h = let none : x ≡ 0 = omega arith in ap count.ones none
word_ones (suc n) x h =
    let rest : row_from (bit_of x) 1 n ≡ row_from (bit_of (x / 2)) 0 n = row_cong (bit_of x) (bit_of (x / 2)) 1 0 n later in
    ones_step x ∙ omega (arith, lowest_bit x, word_ones n (x / 2) (omega (arith, pow-succ' 2 n)), ap ones rest)
  where
    later : (k : ℕ) → k < n → bit_of x (1 + k) ≡ bit_of (x / 2) (0 + k)
    later k l =
        let next : 1 + k ≡ suc k = omega arith in
        ap (bit_of x) next ∙ bit_of_half x k ∙ ap (bit_of (x / 2)) (sym (zero-add k))

ones_one : (row : List Bool) (p : ℕ) → bit (bit_at row p) + ones (drop (suc p) row) ≡ ones (drop p row)
ones_one [] zero = refl
ones_one [] (suc p) = refl
ones_one (x ∷ row) zero = refl
ones_one (x ∷ row) (suc p) = ones_one row p

ones_part : (row : List Bool) (p n : ℕ) → ones (row_from (bit_at row) p n) + ones (drop (p + n) row) ≡ ones (drop p row)
ones_part row p zero = omega (arith, ap (λ (m : ℕ). ones (drop m row)) (add-zero p))
ones_part row p (suc n) =
    let next : p + suc n ≡ suc p + n = omega arith in
    omega (arith, ones_one row p, ones_part row (suc p) n, ap (λ (m : ℕ). ones (drop m row)) next)

pub ones_held : (row : List Bool) (p n w : ℕ) → w < 2 ^ n → ((k : ℕ) → k < n → bit_of w k ≡ bit_at row (p + k)) → count.ones w + ones (drop (p + n) row) ≡ ones (drop p row)
ones_held row p n w h holds =
    omega (arith, word_ones n w h, ap ones (row_cong (bit_of w) (bit_at row) 0 p n (λ k l. ap (bit_of w) (zero-add k) ∙ holds k l)), ones_part row p n)

-- where the top 48 bits are zero the last word is below 2^16
pub top_small : (ws : List ℕ) → FiveWords ws → get_or ws 4 0 < 2 ^ 16
unfolding bit_of
top_small ws f = omega (arith, bits_once 48 (get_or ws 4 0 / 2 ^ 16) 0 (omega (arith, f.below 4)) (lit< tt) (λ k l. high k l ∙ sym (bit_of_zero k)))
  where
    high : (k : ℕ) → k < 48 → bit_of (get_or ws 4 0 / 2 ^ 16) k ≡ false
    high k l =
        let q : (272 + k) / 64 ≡ 4 = omega arith in
        let r : (272 + k) % 64 ≡ 16 + k = omega arith in
        ap (λ (n : ℕ). eqb (n % 2) 1) (shr-shr (get_or ws 4 0) 16 k) ∙ (λ i. bit_of (get_or ws (sym q i) 0) (sym r i))
        ∙ sym (get_or_bits_of 64 ws (272 + k) (omega (arith, f.five))) ∙ sym (get_or-drop 272 (bits_of 64 ws) k false)
        ∙ ap (λ row. get_or row k false) f.top ∙ same_at false 48 k
