-- The check on words: each of the 176 places alone brings in what the division brings in, and so all of them do. Assumes nothing.
use mathlib.Core.Path.{◌≡◌, sym, ap, ◌∙◌}
use mathlib.Core.Bool.{Bool, true, false}
use mathlib.Core.List.{List, [], ◌∷◌}
use mathlib.Core.Logic.{◌↔◌}
use Prim.Native.Nat.{ℕ, ◌+◌, ◌-◌, ◌*◌, ◌/◌, ◌%◌, ◌^◌, ◌<◌, ◌≤◌}
use native.Mathlib.Nat.{mod-lt, mod-eq_of_lt}
use native.Mathlib.Omega.{arith}
use lib.Bits.{bit_xor}
use lib.Dec.{eqb, eqb→eq}
use lib.ListN.{length, get_or, take, drop, replicate, length-drop}
use lib.Pow.{pow_pos}
use lib.Seq.{ext_get_or, get_or-take, get_or-drop, length-take-le}
use Rattle.gf2.specs.Poly.{check_of}
use Rattle.gf2.proofs.Remainders.{length_check}
use Rattle.gf2.proofs.Tested.{tested}
use Rattle.code.specs.Vote.{bit_at}
use Rattle.words.specs.Bytes.{bit_of, byte_of}
use Rattle.words.specs.Words.{FiveWords, row_of_words}
use Rattle.words.proofs.Bytes.{bit_of_packed, bits_once}
use Rattle.words.proofs.Shifts.{bit_of_shr, bit_of_mod}
use Rattle.words.proofs.Words.{bit_in_lem, length_row, bit_row}
use Rattle.block.specs.Blocks.{check_divisor, CheckRight}
use Rattle.block.specs.Quotients.{spread, first_quotient, second_quotient, last_quotient}
use Rattle.block.proofs.Blocks.{check_length}
use Rattle.block.proofs.Linear.{Linear, whole, down, low, up, plus, spread_linear, Brings, single_places}

-- THE CHECK ON WORDS, from its last step to its first: a definition for each quotient, so that each is computed once
unfoldable left_last : ℕ → ℕ → ℕ
left_last rest last = bit_xor (rest / 2 ^ 48) (bit_xor (last / 2 ^ 61) (bit_xor (last / 2 ^ 52) (last / 2 ^ 50))) % 2 ^ 14

unfoldable from_rest : ℕ → ℕ
from_rest rest = left_last rest (last_quotient (rest * 2 ^ 16 % 2 ^ 64))

unfoldable from_second : ℕ → ℕ → ℕ
from_second second third = from_rest (bit_xor third (bit_xor (second / 2 ^ 52) (bit_xor (second / 2 ^ 16) (second / 2 ^ 8))))

unfoldable from_first : ℕ → ℕ → ℕ → ℕ
from_first first b c =
    from_second (second_quotient (bit_xor b (bit_xor (first / 2 ^ 40) (bit_xor (first * 2 ^ 32 % 2 ^ 64) (first * 2 ^ 48 % 2 ^ 64)))))
    (bit_xor c (bit_xor (first / 2 ^ 32) (first / 2 ^ 16)))

unfoldable from_words : ℕ → ℕ → ℕ → ℕ
from_words a b c = from_first (first_quotient a) b c

-- of all 176 places, in one number
unfoldable from_places : ℕ → ℕ
from_places n = from_words (n / 2 ^ 0 % 2 ^ 64) (n / 2 ^ 64 % 2 ^ 64) (n / 2 ^ 128 % 2 ^ 48)

rest_linear : {f : ℕ → ℕ} → Linear f → Linear (λ n. from_rest (f n))
unfolding from_rest left_last last_quotient
rest_linear l =
    let last = spread_linear (spread_linear (spread_linear (spread_linear (up l 16) (3 ∷ 12 ∷ 14 ∷ [])) (6 ∷ 24 ∷ 28 ∷ [])) (12 ∷ [])) (24 ∷ []) in
    low (plus (down l 48) (plus (down last 61) (plus (down last 52) (down last 50)))) 14

second_linear : {f g : ℕ → ℕ} → Linear f → Linear g → Linear (λ n. from_second (f n) (g n))
unfolding from_second
second_linear second third = rest_linear (plus third (plus (down second 52) (plus (down second 16) (down second 8))))

first_linear : {f g h : ℕ → ℕ} → Linear f → Linear g → Linear h → Linear (λ n. from_first (f n) (g n) (h n))
unfolding from_first second_quotient
first_linear first b c =
    let word = plus b (plus (down first 40) (plus (up first 32) (up first 48))) in
    second_linear (spread_linear (spread_linear (spread_linear word (12 ∷ 48 ∷ 56 ∷ [])) (24 ∷ [])) (48 ∷ [])) (plus c (plus (down first 32) (down first 16)))

places_linear : Linear from_places
unfolding from_places from_words first_quotient
places_linear =
    first_linear (spread_linear (spread_linear (low (down whole 0) 64) (24 ∷ [])) (48 ∷ [])) (low (down whole 64) 64) (low (down whole 128) 48)

-- EACH OF THE 176 PLACES, alone, gives what it brings in: computed
brought : ℕ → List Bool
brought zeros = check_of check_divisor (true ∷ replicate zeros false)

agrees : ℕ → Bool
agrees zeros = eqb (from_places (2 ^ (175 - zeros))) (byte_of (brought zeros))

each_place : (zeros : ℕ) → zeros < 176 → from_places (2 ^ (175 - zeros)) ≡ byte_of (brought zeros)
unfolding spread first_quotient second_quotient last_quotient left_last from_rest from_second from_first from_words from_places check_divisor agrees brought
each_place zeros h = eqb→eq _ _ (tested 176 agrees tt zeros h)

-- THE CHECK OF A ROW'S WORDS IS THE CHECK OF ITS INFORMATION
module _ (ws : List ℕ) (five : FiveWords ws) where
  info : List Bool
  info = take 176 (row_of_words ws)

  row_length : length (row_of_words ws) ≡ 272
  row_length = length_row ws five.five

  row_bit : (i k : ℕ) → k < 64 → 64 * i + k < 272 → bit_at (row_of_words ws) (64 * i + k) ≡ bit_of (get_or ws i 0) k
  row_bit i k h l = bit_row ws (64 * i + k) five.five l ∙ sym (bit_in_lem ws i k h)

  part : (i width : ℕ) → width ≤ 64 → 64 * i + width ≤ 176 → byte_of info / 2 ^ (64 * i) % 2 ^ width ≡ get_or ws i 0 % 2 ^ width
  unfolding info
  part i width h l =
      bits_once width _ _ (mod-lt _ (pow_pos width)) (mod-lt _ (pow_pos width))
      (λ k g. bit_of_mod (byte_of info / 2 ^ (64 * i)) width k g ∙ bit_of_shr (byte_of info) (64 * i) k ∙ bit_of_packed info (64 * i + k)
      ∙ get_or-take 176 (row_of_words ws) (64 * i + k) false (omega arith) ∙ row_bit i k (omega arith) (omega arith) ∙ sym (bit_of_mod (get_or ws i 0) width k g))

  words_check : (k : ℕ) → bit_of (from_words (get_or ws 0 0) (get_or ws 1 0) (get_or ws 2 0 % 2 ^ 48)) k ≡ bit_at (check_of check_divisor info) k
  unfolding info from_places brought
  words_check k =
      (λ t. bit_of (from_words (sym first t) (sym second t) (sym (part 2 48 (omega arith) (omega arith)) t)) k)
      ∙ single_places check_divisor k info from_places places_linear single
    where
      first : byte_of info / 2 ^ 0 % 2 ^ 64 ≡ get_or ws 0 0
      first = part 0 64 (omega arith) (omega arith) ∙ mod-eq_of_lt (five.below 0)

      second : byte_of info / 2 ^ 64 % 2 ^ 64 ≡ get_or ws 1 0
      second = part 1 64 (omega arith) (omega arith) ∙ mod-eq_of_lt (five.below 1)

      single : Brings check_divisor k (length info) from_places
      single p zeros e =
          let long : length info ≡ 176 = length-take-le 176 (row_of_words ws) (omega (arith, row_length)) in
          let at : p ≡ 175 - zeros = omega arith in
          ap (λ (q : ℕ). bit_of (from_places (2 ^ q)) k) at ∙ ap (λ (n : ℕ). bit_of n k) (each_place zeros (omega arith)) ∙ bit_of_packed (brought zeros) k

  -- as the code has it, quotient by quotient
  pub check_made : (first second last rest : ℕ) → first ≡ first_quotient (get_or ws 0 0)
      → second ≡ second_quotient (bit_xor (get_or ws 1 0) (bit_xor (first / 2 ^ 40) (bit_xor (first * 2 ^ 32 % 2 ^ 64) (first * 2 ^ 48 % 2 ^ 64))))
      → rest ≡ bit_xor (bit_xor (get_or ws 2 0 % 2 ^ 48) (bit_xor (first / 2 ^ 32) (first / 2 ^ 16))) (bit_xor (second / 2 ^ 52) (bit_xor (second / 2 ^ 16) (second / 2 ^ 8)))
      → last ≡ last_quotient (rest * 2 ^ 16 % 2 ^ 64) → (k : ℕ)
      → bit_of (bit_xor (rest / 2 ^ 48) (bit_xor (last / 2 ^ 61) (bit_xor (last / 2 ^ 52) (last / 2 ^ 50))) % 2 ^ 14) k ≡ bit_at (check_of check_divisor (take 176 (row_of_words ws))) k
  unfolding left_last from_rest from_second from_first from_words info
  check_made first second last rest ef es er el k =
      ap (λ (n : ℕ). bit_of n k)
      (ap (left_last rest) el ∙ ap from_rest er
      ∙ ap (λ (n : ℕ). from_second n (bit_xor (get_or ws 2 0 % 2 ^ 48) (bit_xor (first / 2 ^ 32) (first / 2 ^ 16)))) es
      ∙ ap (λ (n : ℕ). from_first n (get_or ws 1 0) (get_or ws 2 0 % 2 ^ 48)) ef)
      ∙ words_check k

  -- THE CHECK BITS ARE RIGHT where the number of the 14 places is that of the check
  check_place : (k : ℕ) → k < 14 → bit_at (drop 176 (take 190 (row_of_words ws))) k ≡ bit_of (get_or ws 2 0 / 2 ^ 48 % 2 ^ 14) k
  check_place k l =
      get_or-drop 176 (take 190 (row_of_words ws)) k false ∙ get_or-take 190 (row_of_words ws) (176 + k) false (omega arith)
      ∙ ap (bit_at (row_of_words ws)) (omega arith) ∙ row_bit 2 (48 + k) (omega arith) (omega arith)
      ∙ sym (bit_of_mod (get_or ws 2 0 / 2 ^ 48) 14 k l ∙ bit_of_shr (get_or ws 2 0) 48 k)

  pub check_right : (check : ℕ) → check < 2 ^ 14 → ((k : ℕ) → k < 14 → bit_of check k ≡ bit_at (check_of check_divisor (take 176 (row_of_words ws))) k)
      → (check ≡ get_or ws 2 0 / 2 ^ 48 % 2 ^ 14) ↔ CheckRight (row_of_words ws)
  check_right check small is = (
    λ e. ext_get_or false (drop 176 (take 190 (row_of_words ws))) (check_of check_divisor (take 176 (row_of_words ws)))
        (long ∙ sym (length_check check_divisor (take 176 (row_of_words ws)) ∙ check_length))
        (λ k l. let few : k < 14 = omega (arith, long) in check_place k few ∙ ap (λ (n : ℕ). bit_of n k) (sym e) ∙ is k few),
    λ r. bits_once 14 check (get_or ws 2 0 / 2 ^ 48 % 2 ^ 14) small (mod-lt _ (pow_pos 14))
        (λ k l. is k l ∙ ap (λ row. bit_at row k) (sym r) ∙ check_place k l),
  )
    where
      long : length (drop 176 (take 190 (row_of_words ws))) ≡ 14
      long = length-drop 176 (take 190 (row_of_words ws)) ∙ omega (arith, length-take-le 190 (row_of_words ws) (omega (arith, row_length)))
