-- Counts in bit planes, place by place: two bits more, and the threshold; and the places that the vote turns. Assumes nothing.
use mathlib.Core.Path.{◌≡◌, refl, sym, ap, ◌∙◌}
use mathlib.Core.Bool.{Bool, true, false, ◌&&◌, ◌||◌, not}
use mathlib.Core.List.{List}
use Prim.Native.Nat.{ℕ, ◌+◌, ◌*◌, ◌<◌}
use native.Mathlib.Decide.{dec_lt}
use native.Mathlib.Omega.{arith}
use borrow.Author.Tests.{le-leb, lt-leb, lt-ltb, le-ltb}
use lib.Bits.{bit_or, bit_and, bit_xor}
use lib.Dec.{T, leb, ltb}
use lib.Ieee.Bits.{is_false}
use lib.ListN.{length, get_or-eq_default}
use Rattle.gf2.specs.Poly.{bit, ◌⊕◌}
use Rattle.gf2.proofs.Bits.{bit_lt, ⊕_zero}
use Rattle.gf2.proofs.Lists.{length_row_from, get_or_row_from}
use Rattle.gf2.proofs.Tested.{all_to, tested}
use Rattle.code.specs.Vote.{bit_at, odd_sums, majority}
use Rattle.words.specs.declared.votes.Planes.{Planes}
use Rattle.words.specs.Bytes.{bit_of}
use Rattle.words.specs.Circle.{Holds, turned, counted}
use Rattle.words.proofs.Bytes.{bit_of_zero}
use Rattle.words.proofs.Shifts.{bit_of_or, bit_of_and, bit_of_xor}

-- the first bit of each count
pub counted_first : (bits k : ℕ) → counted (record { ones = bits; twos = 0; fours = 0; eights = 0; sixteens = 0 }) k ≡ bit (bit_of bits k)
unfolding counted
counted_first bits k = omega (arith, ap bit (bit_of_zero k))

-- two bits and a carry in, the lower bit and a carry out
half : (c a : Bool) → bit (c ⊕ a) + 2 * bit (c && a) ≡ bit a + bit c
half true true = refl
half true false = refl
half false true = refl
half false false = refl

full : (a b c : Bool) → bit (a ⊕ b ⊕ c) + 2 * bit ((a && b) || (a ⊕ b && c)) ≡ bit c + bit a + bit b
full true true true = refl
full true true false = refl
full true false true = refl
full true false false = refl
full false true true = refl
full false true false = refl
full false false true = refl
full false false false = refl

-- TWO BITS MORE: nothing is carried out of the last plane while a count stays below 32
module _ (c : Planes) (a b : ℕ) where
  abbrev two : ℕ
  two = bit_or (bit_and a b) (bit_and (bit_xor a b) c.ones)

  abbrev four : ℕ
  four = bit_and two c.twos

  abbrev eight : ℕ
  eight = bit_and four c.fours

  abbrev sixteen : ℕ
  sixteen = bit_and eight c.eights

  carried_two : (k : ℕ) → bit_of two k ≡ ((bit_of a k && bit_of b k) || (bit_of a k ⊕ bit_of b k && bit_of c.ones k))
  carried_two k =
      bit_of_or (bit_and a b) (bit_and (bit_xor a b) c.ones) k
      ∙ (λ i. bit_of_and a b k i || (bit_of_and (bit_xor a b) c.ones k ∙ ap (λ z. z && bit_of c.ones k) (bit_of_xor a b k)) i)

  pub counted_two : (k : ℕ) → counted c k < 30
      → counted (record { ones = bit_xor (bit_xor a b) c.ones; twos = bit_xor two c.twos; fours = bit_xor four c.fours; eights = bit_xor eight c.eights; sixteens = bit_xor sixteen c.sixteens }) k
      ≡ counted c k + bit (bit_of a k) + bit (bit_of b k)
  unfolding counted
  counted_two k h =
      let low : bit_of (bit_xor (bit_xor a b) c.ones) k ≡ bit_of a k ⊕ bit_of b k ⊕ bit_of c.ones k =
      bit_of_xor (bit_xor a b) c.ones k ∙ ap (λ z. z ⊕ bit_of c.ones k) (bit_of_xor a b k) in
      omega (
        arith,
        bit_lt (bit_of a k),
        bit_lt (bit_of b k),
        ap bit low,
        ap bit (carried_two k),
        full (bit_of a k) (bit_of b k) (bit_of c.ones k),
        ap bit (bit_of_xor two c.twos k),
        half (bit_of two k) (bit_of c.twos k),
        ap bit (bit_of_and two c.twos k),
        ap bit (bit_of_xor four c.fours k),
        half (bit_of four k) (bit_of c.fours k),
        ap bit (bit_of_and four c.fours k),
        ap bit (bit_of_xor eight c.eights k),
        half (bit_of eight k) (bit_of c.eights k),
        ap bit (bit_of_and eight c.eights k),
        ap bit (bit_of_xor sixteen c.sixteens k),
        half (bit_of sixteen k) (bit_of c.sixteens k),
      )

-- THE THRESHOLD: sixteen, or eight and something
nine_of : (a b c d e : Bool) → (e || (d && (a || b || c))) ≡ leb majority (bit a + 2 * bit b + 4 * bit c + 8 * bit d + 16 * bit e)
nine_of a b c d true = sym (le-leb majority (bit a + 2 * bit b + 4 * bit c + 8 * bit d + 16) (omega arith))
nine_of a b c false false = sym (lt-leb majority (bit a + 2 * bit b + 4 * bit c + 0 + 0) (omega (arith, bit_lt a, bit_lt b, bit_lt c)))
nine_of true b c true false = sym (le-leb majority (1 + 2 * bit b + 4 * bit c + 8 + 0) (omega arith))
nine_of false true c true false = sym (le-leb majority (0 + 2 + 4 * bit c + 8 + 0) (omega arith))
nine_of false false true true false = refl
nine_of false false false true false = refl

pub counted_nine : (c : Planes) (k : ℕ) → bit_of (bit_or c.sixteens (bit_and c.eights (bit_or (bit_or c.ones c.twos) c.fours))) k ≡ leb majority (counted c k)
unfolding counted
counted_nine c k =
    bit_of_or c.sixteens (bit_and c.eights (bit_or (bit_or c.ones c.twos) c.fours)) k
    ∙ ap (λ z. bit_of c.sixteens k || z) (bit_of_and c.eights (bit_or (bit_or c.ones c.twos) c.fours) k)
    ∙ ap (λ z. bit_of c.sixteens k || (bit_of c.eights k && z)) (bit_of_or (bit_or c.ones c.twos) c.fours k ∙ ap (λ z. z || bit_of c.fours k) (bit_of_or c.ones c.twos k))
    ∙ nine_of (bit_of c.ones k) (bit_of c.twos k) (bit_of c.fours k) (bit_of c.eights k) (bit_of c.sixteens k)

-- the words that are one at the positions of a block
same_at_each : (f g : ℕ → Bool) → T (all_to 64 (λ k. not (f k ⊕ g k))) → (k : ℕ) → k < 64 → f k ≡ g k
same_at_each f g t k h = ⊕_zero (f k) (g k) (is_false (f k ⊕ g k) (tested 64 (λ k. not (f k ⊕ g k)) t k h))

pub last_within : (k : ℕ) → k < 64 → bit_of 65535 k ≡ ltb (256 + k) 272
unfolding bit_of
last_within = same_at_each (bit_of 65535) (λ k. ltb (256 + k) 272) tt

pub all_within : (i k : ℕ) → i < 4 → k < 64 → bit_of 18446744073709551615 k ≡ ltb (64 * i + k) 272
unfolding bit_of
all_within i k l h = same_at_each (bit_of 18446744073709551615) (λ k. true) tt k h ∙ sym (lt-ltb (64 * i + k) 272 (omega arith))

-- WHAT THE VOTE TURNS, as a row
pub length_turned : (sums : List Bool) → length (turned sums) ≡ 272
unfolding turned
length_turned sums = length_row_from (λ p. leb majority (odd_sums sums p)) 0 272

pub bit_turned : (sums : List Bool) (p : ℕ) → p < 272 → bit_at (turned sums) p ≡ leb majority (odd_sums sums p)
unfolding turned
bit_turned sums p h = get_or_row_from (λ q. leb majority (odd_sums sums q)) 272 p h

-- a word of it: what the majority says, within the positions of a block
pub turned_held : (sums : List Bool) (i w v : ℕ) → ((k : ℕ) → k < 64 → bit_of w k ≡ ltb (64 * i + k) 272)
    → ((k : ℕ) → k < 64 → 64 * i + k < 273 → bit_of v k ≡ leb majority (odd_sums sums (64 * i + k))) → Holds (bit_and w v) (bit_at (turned sums)) (64 * i)
turned_held sums i w v hw hv k l =
    bit_of_and w v k
    ∙ elim (dec_lt (64 * i + k) 272) [
      | yes h ↦ (λ t. (hw k l ∙ lt-ltb (64 * i + k) 272 h) t && hv k l (omega arith) t) ∙ sym (bit_turned sums (64 * i + k) h)
      | no h ↦
          (λ t. (hw k l ∙ le-ltb (64 * i + k) 272 (omega arith)) t && bit_of v k)
          ∙ sym (get_or-eq_default (turned sums) false {n = 64 * i + k} (omega (arith, length_turned sums)))
    ]
