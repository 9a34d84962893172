-- Check bits, and the row of a written block. Assumes nothing.
use mathlib.Core.Path.{◌≡◌, refl, sym, ap, ◌∙◌, subst}
use mathlib.Core.Bool.{Bool, false}
use mathlib.Core.List.{List, ◌++◌, append-nil}
use mathlib.Core.Logic.{◌↔◌}
use Prim.Native.Nat.{ℕ, ◌+◌, ◌*◌, ◌≤◌}
use native.Mathlib.Omega.{arith}
use lib.ListN.{length, take, drop, replicate, take-append-drop, length-append, length-drop, length-replicate, replicate-append-replicate}
use lib.Seq.{length-take-le, take_at, drop_at, take-append-add, drop-append-add}
use Rattle.gf2.specs.Poly.{Multiple, check_of, systematic}
use Rattle.gf2.proofs.Remainders.{systematic_multiple, only_ending, length_check}
use Rattle.code.specs.Code.{generator}
use Rattle.code.proofs.Computed.{generator_length}
use Rattle.words.specs.Bytes.{row_of}
use Rattle.block.specs.Blocks.{check_divisor, block_row}
use Rattle.words.proofs.Bytes.{length_bits_of}

pub check_length : length check_divisor ≡ 14
unfolding check_divisor
check_length = refl

pub length_systematic : (low info : List Bool) → length (systematic low info) ≡ length info + length low
length_systematic low info = length-append info (check_of low info) ∙ ap (λ (n : ℕ). length info + n) (length_check low info)

-- a row of k + d places is a multiple exactly where its last d are the check of its first k
pub ending_tested : (low row : List Bool) (k : ℕ) → length row ≡ k + length low → Multiple low k row ↔ (drop k row ≡ check_of low (take k row))
ending_tested low row k l = (λ m. only_ending low (take k row) (drop k row) (length-drop k row ∙ omega arith) (parted m), λ e. whole e)
  where
    long : length (take k row) ≡ k
    long = length-take-le k row (omega arith)

    parted : Multiple low k row → Multiple low (length (take k row)) (take k row ++ drop k row)
    parted m = subst (λ (xs : List Bool). Multiple low (length (take k row)) xs) (sym (take-append-drop k row)) (subst (λ (n : ℕ). Multiple low n row) (sym long) m)

    whole : drop k row ≡ check_of low (take k row) → Multiple low k row
    whole e =
        subst (λ (xs : List Bool). Multiple low k xs) (ap (λ xs. take k row ++ xs) (sym e) ∙ take-append-drop k row)
        (subst (λ (n : ℕ). Multiple low n (systematic low (take k row))) long (systematic_multiple low (take k row)))

-- a row of information and zeros, with the check put behind the information
pub padded_zeros : (row xs : List Bool) (at d n : ℕ) → row ≡ xs ++ replicate (d + n) false → length xs ≡ at
    → take (at + d) row ≡ take at row ++ replicate d false
padded_zeros row xs at d n e l = rw (e, ← l) (take-append-add xs (replicate (d + n) false) d ∙ (λ i. sym (take_at xs (replicate (d + n) false) (length xs) refl) i ++ zeros d i))
  where
    zeros : (d : ℕ) → take d (replicate (d + n) false) ≡ replicate d false
    zeros d = ap (take d) (sym (replicate-append-replicate d n false)) ∙ take_at (replicate d false) (replicate n false) d (length-replicate d false)

-- the row after the check is put in is information, check and zeros again
pub padded_check : (row low xs : List Bool) (at n : ℕ) → row ≡ xs ++ replicate (length low + n) false → length xs ≡ at
    → systematic low (take at row) ++ drop (at + length low) row ≡ systematic low xs ++ replicate n false
padded_check row low xs at n e l =
    (λ i. systematic low (front i) ++ behind i)
  where
    front : take at row ≡ xs
    front = ap (take at) e ∙ take_at xs (replicate (length low + n) false) at l

    behind : drop (at + length low) row ≡ replicate n false
    behind =
        (λ i. drop (sym l i + length low) (e i)) ∙ drop-append-add xs (replicate (length low + n) false) (length low)
        ∙ ap (drop (length low)) (sym (replicate-append-replicate (length low) n false)) ∙ drop_at (replicate (length low) false) (replicate n false) (length low) (length-replicate (length low) false)

-- the three rows of the writer: information, with its check, and with the parity of both
module _ (info : List ℕ) (row low gen : List Bool) (l : length info ≡ 22) (unpacked : row ≡ row_of info ++ drop (8 * length info) (replicate 272 false))
    (is_check : low ≡ check_divisor) (is_generator : gen ≡ generator) where
  fourteen : length low ≡ 14
  fourteen = ap length is_check ∙ check_length

  eighty_two : length gen ≡ 82
  eighty_two = ap length is_generator ∙ generator_length

  info_row : row ≡ row_of info ++ replicate (length low + 82) false
  info_row =
      let cut : 8 * length info ≡ 176 = omega arith in
      let left : 96 ≡ length low + 82 = omega (arith, fourteen) in
      unpacked ∙ ap (λ (n : ℕ). row_of info ++ drop n (replicate 272 false)) cut ∙ ap (λ (n : ℕ). row_of info ++ replicate n false) left

  info_length : length (row_of info) ≡ 176
  info_length = length_bits_of 8 info ∙ omega arith

  pub check_room : (176 + length low ≤ 272) × (take (176 + length low) row ≡ take 176 row ++ replicate (length low) false)
  check_room = (omega (arith, fourteen), padded_zeros row (row_of info) 176 (length low) 82 info_row info_length)

  module _ (checked : List Bool) (with_check : checked ≡ systematic low (take 176 row) ++ drop (176 + length low) row) where
    checked_row : checked ≡ systematic low (row_of info) ++ replicate (length gen + 0) false
    checked_row =
        let left : 82 ≡ length gen + 0 = omega (arith, eighty_two) in
        with_check ∙ padded_check row low (row_of info) 176 82 info_row info_length ∙ ap (λ (n : ℕ). systematic low (row_of info) ++ replicate n false) left

    checked_length : length (systematic low (row_of info)) ≡ 190
    checked_length = length_systematic low (row_of info) ∙ omega (arith, info_length, fourteen)

    pub parity_room : (190 + length gen ≤ 272) × (take (190 + length gen) checked ≡ take 190 checked ++ replicate (length gen) false)
    parity_room = (omega (arith, eighty_two), padded_zeros checked (systematic low (row_of info)) 190 (length gen) 0 checked_row checked_length)

    pub block_row_lem : (word : List Bool) → word ≡ systematic gen (take 190 checked) ++ drop (190 + length gen) checked → word ≡ block_row (row_of info)
    block_row_lem word with_parity =
        with_parity ∙ padded_check checked gen (systematic low (row_of info)) 190 0 checked_row checked_length ∙ append-nil (systematic gen (systematic low (row_of info)))
        ∙ (λ i. systematic (is_generator i) (systematic (is_check i) (row_of info)))
