-- Places of a word exchanged, and a tile turned round by three exchanges. Assumes nothing.
use mathlib.Core.Path.{◌≡◌, sym, ap, ◌∙◌}
use mathlib.Core.Bool.{Bool, true, false, ◌&&◌, not, cond, false≢true}
use Prim.Native.Nat.{ℕ, ◌+◌, ◌-◌, ◌*◌, ◌/◌, ◌%◌, ◌^◌, ◌<◌}
use native.Mathlib.Decide.{dec_lt}
use native.Mathlib.Omega.{arith}
use borrow.Author.Tests.{le-leb, lt-leb}
use lib.Bits.{bit_and, bit_xor}
use lib.Dec.{T, eqb, eqb→eq, leb, ltb, ltb→lt}
use lib.Ieee.Bits.{is_false}
use lib.Ieee.Fits.{and_l, and_r}
use Rattle.gf2.specs.Poly.{◌⊕◌}
use Rattle.gf2.proofs.Bits.{⊕_twice, ⊕_comm, ⊕_false}
use Rattle.gf2.proofs.Tested.{tested}
use Rattle.words.specs.Bytes.{bit_of}
use Rattle.words.proofs.Shifts.{bit_of_and, bit_of_xor, bit_of_shr, bit_of_shl, bit_of_shl_low, bit_of_mod}
use Rattle.frame.specs.Tiles.{exchanged}

-- so far before a place stands a chosen one
abbrev chosen_before : (far chosen k : ℕ) → Bool
chosen_before far chosen k = leb far k && bit_of chosen (k - far)

-- the place whose bit comes here
abbrev source_of : (far chosen k : ℕ) → ℕ
source_of far chosen k = cond (bit_of chosen k) (far + k) (cond (chosen_before far chosen k) (k - far) k)

-- the place is one of 64, and not both it and the one so far before it are chosen
abbrev apart_at : (far chosen k : ℕ) → Bool
apart_at far chosen k = ltb k 64 && not (bit_of chosen k && chosen_before far chosen k)

-- A PLACE AFTER AN EXCHANGE
bit_exchanged : (far chosen x k : ℕ) → T (apart_at far chosen k) → bit_of (exchanged far chosen x) k ≡ bit_of x (source_of far chosen k)
unfolding exchanged
bit_exchanged far chosen x k t =
    bit_of_xor x (bit_xor differing (differing * 2 ^ far % 2 ^ 64)) k
    ∙ ap (λ b. bit_of x k ⊕ b) (bit_of_xor differing (differing * 2 ^ far % 2 ^ 64) k ∙ (λ i. here k i ⊕ before i))
    ∙ chosen_one (bit_of chosen k) (chosen_before far chosen k) (is_false _ (and_r (ltb k 64) _ t))
  where
    differing : ℕ
    differing = bit_and chosen (bit_xor x (x / 2 ^ far))

    here : (k : ℕ) → bit_of differing k ≡ (bit_of chosen k && (bit_of x k ⊕ bit_of x (far + k)))
    here k = bit_of_and chosen (bit_xor x (x / 2 ^ far)) k ∙ ap (λ b. bit_of chosen k && b) (bit_of_xor x (x / 2 ^ far) k ∙ ap (λ b. bit_of x k ⊕ b) (bit_of_shr x far k))

    before : bit_of (differing * 2 ^ far % 2 ^ 64) k ≡ (chosen_before far chosen k && (bit_of x (k - far) ⊕ bit_of x k))
    before =
        bit_of_mod (differing * 2 ^ far) 64 k (ltb→lt k 64 (and_l (ltb k 64) _ t))
        ∙ elim (dec_lt k far) [
          | yes l ↦ bit_of_shl_low differing far k l ∙ sym (ap (λ b. b && bit_of chosen (k - far) && (bit_of x (k - far) ⊕ bit_of x k)) (lt-leb far k l))
          | no l ↦
              let up : k ≡ far + (k - far) = omega arith in
              ap (bit_of (differing * 2 ^ far)) up ∙ bit_of_shl differing far (k - far) ∙ here (k - far) ∙ ap (λ (n : ℕ). bit_of chosen (k - far) && (bit_of x (k - far) ⊕ bit_of x n)) (sym up)
              ∙ sym (ap (λ b. b && bit_of chosen (k - far) && (bit_of x (k - far) ⊕ bit_of x k)) (le-leb far k (omega arith)))
        ]

    chosen_one : (c d : Bool) → (c && d) ≡ false → bit_of x k ⊕ ((c && (bit_of x k ⊕ bit_of x (far + k))) ⊕ (d && (bit_of x (k - far) ⊕ bit_of x k))) ≡ bit_of x (cond c (far + k) (cond d (k - far) k))
    chosen_one true true e = absurd (false≢true (sym e))
    chosen_one true false e = ap (λ b. bit_of x k ⊕ b) (⊕_false (bit_of x k ⊕ bit_of x (far + k))) ∙ ⊕_twice (bit_of x k) (bit_of x (far + k))
    chosen_one false true e = ap (λ b. bit_of x k ⊕ b) (⊕_comm (bit_of x (k - far)) (bit_of x k)) ∙ ⊕_twice (bit_of x k) (bit_of x (k - far))
    chosen_one false false e = ⊕_false (bit_of x k)

-- the chosen places of src/tiles.rt
abbrev pub of_two : ℕ
of_two = 47851476196393130

abbrev pub of_four : ℕ
of_four = 225176545447116

abbrev pub of_eight : ℕ
of_eight = 4042322160

-- three exchanges bring each of the 64 places to its mirror place across the diagonal
abbrev crossed : ℕ → Bool
crossed k =
    let a = source_of 28 of_eight k in
    let b = source_of 14 of_four a in
    apart_at 28 of_eight k && (apart_at 14 of_four a && (apart_at 7 of_two b && eqb (source_of 7 of_two b) (8 * (k % 8) + k / 8)))

all_crossed : (k : ℕ) → k < 64 → T (crossed k)
unfolding bit_of
all_crossed k h = tested 64 crossed tt k h

-- A TILE TURNED ROUND
pub tile_crossed : (x j i : ℕ) → j < 8 → i < 8
    → bit_of (exchanged 28 of_eight (exchanged 14 of_four (exchanged 7 of_two x))) (8 * j + i) ≡ bit_of x (8 * i + j)
tile_crossed x j i h l =
    let k = 8 * j + i in
    let a = source_of 28 of_eight k in
    let b = source_of 14 of_four a in
    let first = exchanged 7 of_two x in
    let t = all_crossed k (omega arith) in
    let u = and_r (apart_at 28 of_eight k) _ t in
    let v = and_r (apart_at 14 of_four a) _ u in
    let place : 8 * (k % 8) + k / 8 ≡ 8 * i + j = omega arith in
    bit_exchanged 28 of_eight (exchanged 14 of_four first) k (and_l (apart_at 28 of_eight k) _ t)
    ∙ bit_exchanged 14 of_four first a (and_l (apart_at 14 of_four a) _ u)
    ∙ bit_exchanged 7 of_two x b (and_l (apart_at 7 of_two b) _ v)
    ∙ ap (bit_of x) (eqb→eq _ _ (and_r (apart_at 7 of_two b) _ v) ∙ place)
