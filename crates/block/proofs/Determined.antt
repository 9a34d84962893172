-- NO TWO OUTCOMES MEET A PROMISE of this crate's public functions: what they return, and the output, where it holds bytes. Assumes nothing.
use mathlib.Core.Path.{◌≡◌, refl, sym, ap, ◌∙◌, subst}
use mathlib.Core.Bool.{Bool, true}
use mathlib.Core.List.{List}
use mathlib.Core.Logic.{inl, inr}
use Prim.Native.Nat.{ℕ}
use native.Mathlib.Omega.{arith}
use lib.ListN.{length, take}
use lib.Pow.{are_bytes}
use Rattle.std.specs.Prelude.{Result, Ok, Err}
use Rattle.answers.specs.Numbers.{refused, number_of}
use Rattle.answers.specs.declared.Refusal.{Refusal}
use Rattle.answers.proofs.Determined.{paper_once, refusal_once, refused_once, refused_accepted}
use Rattle.block.specs.declared.Corrected.{Corrected}
use Rattle.block.specs.declared.Unread.{Unread}
use Rattle.block.specs.declared.Unread.TheVariants as unread
use Rattle.block.specs.Told.{ToldCorrected, refusal_of, told_corrected, told_read}
use Rattle.words.specs.Bytes.{row_of}
use Rattle.words.specs.Near.{Near}
use Rattle.block.specs.Corrector.{WrongLength, NoCodeWord, Corrects}
use Rattle.block.specs.Blocks.{CheckRight, Reads, Writes}
use Rattle.words.proofs.Bytes.{row_once, length_bits_of}
use Rattle.words.proofs.Determined.{found_once}

-- what is told determines what is returned
corrected_once : (r s : Result Corrected Refusal) → told_corrected r ≡ told_corrected s → r ≡ s
corrected_once (Ok r) (Ok s) e = λ i. Ok (record { count = (e i).count; changed = (e i).changed })
corrected_once (Ok r) (Err w) e = absurd (refused_accepted (number_of w) (sym (ap (λ (t : ToldCorrected). t.answer) e)))
corrected_once (Err v) (Ok s) e = absurd (refused_accepted (number_of v) (ap (λ (t : ToldCorrected). t.answer) e))
corrected_once (Err v) (Err w) e = ap Err (refusal_once v w (refused_once (number_of v) (number_of w) (ap (λ (t : ToldCorrected). t.answer) e)))

refused_read : (u : Unread) → (told_read (Err u)).answer ≡ refused (number_of (refusal_of u))
refused_read unread.WrongLength = refl
refused_read unread.NoCodeWord = refl
refused_read (unread.CheckBits corrected) = refl

unread_once : (u v : Unread) → refusal_of u ≡ refusal_of v → told_read (Err u) ≡ told_read (Err v) → u ≡ v
unread_once unread.WrongLength unread.WrongLength e t = refl
unread_once unread.WrongLength unread.NoCodeWord e t = cc
unread_once unread.WrongLength (unread.CheckBits s) e t = cc
unread_once unread.NoCodeWord unread.WrongLength e t = cc
unread_once unread.NoCodeWord unread.NoCodeWord e t = refl
unread_once unread.NoCodeWord (unread.CheckBits s) e t = cc
unread_once (unread.CheckBits r) unread.WrongLength e t = cc
unread_once (unread.CheckBits r) unread.NoCodeWord e t = cc
unread_once (unread.CheckBits r) (unread.CheckBits s) e t = λ i. unread.CheckBits (record { count = (t i).count; changed = (t i).changed })

read_once : (r s : Result Corrected Unread) → told_read r ≡ told_read s → r ≡ s
read_once (Ok r) (Ok s) e = λ i. Ok (record { count = (e i).count; changed = (e i).changed })
read_once (Ok r) (Err v) e = absurd (refused_accepted (number_of (refusal_of v)) (sym (refused_read v) ∙ sym (ap (λ (t : ToldCorrected). t.answer) e)))
read_once (Err u) (Ok s) e = absurd (refused_accepted (number_of (refusal_of u)) (sym (refused_read u) ∙ ap (λ (t : ToldCorrected). t.answer) e))
read_once (Err u) (Err v) e =
    let same = refused_once (number_of (refusal_of u)) (number_of (refusal_of v)) (sym (refused_read u) ∙ ap (λ (t : ToldCorrected). t.answer) e ∙ refused_read v) in
    ap Err (unread_once u v (refusal_once (refusal_of u) (refusal_of v) same) e)

-- what is told is an answer, a count and a row
told : (t u : ToldCorrected) → t.answer ≡ u.answer → (t.count ≡ u.count) × (t.changed ≡ u.changed) → t ≡ u
told t u p e = λ i. record { answer = p i; count = e.0 i; changed = e.1 i }

-- what the corrector and the block reader refuse alike, and what they found
module _ (room : ℕ) (received before : List ℕ) (t w : ToldCorrected) (x y : List ℕ) where
  same_length : WrongLength room received before x t → WrongLength room received before y w → (t ≡ w) × (x ≡ y)
  same_length u v = (told t w (u.answers ∙ sym v.answers) (u.counts ∙ sym v.counts, u.places ∙ sym v.places), u.same ∙ sym v.same)

  same_none : NoCodeWord room received before x t → NoCodeWord room received before y w → (t ≡ w) × (x ≡ y)
  same_none u v = (told t w (u.answers ∙ sym v.answers) (u.counts ∙ sym v.counts, u.places ∙ sym v.places), u.same ∙ sym v.same)

-- what was found for a block
pub block_once : (received : List ℕ) {u v : List Bool} {m n : ℕ} {xs ys : List ℕ} → length received ≡ 34 → Near (row_of received) u m xs → Near (row_of received) v n ys
    → (u ≡ v) × ((m ≡ n) × (xs ≡ ys))
block_once received l = found_once (length_bits_of 8 received ∙ omega arith)

module _ (received before : List ℕ) (t w : ToldCorrected) (x y : List ℕ) (bx : are_bytes x ≡ true) (by : are_bytes y ≡ true) where
  -- what the corrector tells, and what the block reader tells
  told_correct_once : Corrects received before x t → Corrects received before y w → (t ≡ w) × (x ≡ y)
  told_correct_once (inl u) (inl v) = same_length 34 received before t w x y u v
  told_correct_once (inl u) (inr (inl v)) = absurd (u.wrong v.sized)
  told_correct_once (inl u) (inr (inr v)) = absurd (u.wrong v.sized)
  told_correct_once (inr (inl u)) (inl v) = absurd (v.wrong u.sized)
  told_correct_once (inr (inl u)) (inr (inl v)) = same_none 34 received before t w x y u v
  told_correct_once (inr (inl u)) (inr (inr v)) = absurd (u.none v.word v.found.code v.found.near)
  told_correct_once (inr (inr u)) (inl v) = absurd (v.wrong u.sized)
  told_correct_once (inr (inr u)) (inr (inl v)) = absurd (v.none u.word u.found.code u.found.near)
  told_correct_once (inr (inr u)) (inr (inr v)) =
      let once = block_once received u.sized.input u.found v.found in
      (told t w (u.answers ∙ sym v.answers) once.1, row_once x y bx by (u.long ∙ sym v.long) (u.written ∙ once.0 ∙ sym v.written))

  told_read_once : Reads received before x t → Reads received before y w → (t ≡ w) × (x ≡ y)
  told_read_once (inl u) (inl v) = same_length 22 received before t w x y u v
  told_read_once (inl u) (inr (inl v)) = absurd (u.wrong v.sized)
  told_read_once (inl u) (inr (inr (inl v))) = absurd (u.wrong v.sized)
  told_read_once (inl u) (inr (inr (inr v))) = absurd (u.wrong v.sized)
  told_read_once (inr (inl u)) (inl v) = absurd (v.wrong u.sized)
  told_read_once (inr (inl u)) (inr (inl v)) = same_none 22 received before t w x y u v
  told_read_once (inr (inl u)) (inr (inr (inl v))) = absurd (u.none v.word v.found.code v.found.near)
  told_read_once (inr (inl u)) (inr (inr (inr v))) = absurd (u.none v.word v.found.code v.found.near)
  told_read_once (inr (inr (inl u))) (inl v) = absurd (v.wrong u.sized)
  told_read_once (inr (inr (inl u))) (inr (inl v)) = absurd (v.none u.word u.found.code u.found.near)
  told_read_once (inr (inr (inl u))) (inr (inr (inl v))) =
      (told t w (u.answers ∙ sym v.answers) (block_once received u.sized.input u.found v.found).1, u.same ∙ sym v.same)
  told_read_once (inr (inr (inl u))) (inr (inr (inr v))) =
      absurd (u.wrong (subst CheckRight (sym (block_once received u.sized.input u.found v.found).0) v.right))
  told_read_once (inr (inr (inr u))) (inl v) = absurd (v.wrong u.sized)
  told_read_once (inr (inr (inr u))) (inr (inl v)) = absurd (v.none u.word u.found.code u.found.near)
  told_read_once (inr (inr (inr u))) (inr (inr (inl v))) =
      absurd (v.wrong (subst CheckRight (block_once received u.sized.input u.found v.found).0 u.right))
  told_read_once (inr (inr (inr u))) (inr (inr (inr v))) =
      let once = block_once received u.sized.input u.found v.found in
      (told t w (u.answers ∙ sym v.answers) once.1, row_once x y bx by (u.long ∙ sym v.long) (u.given ∙ ap (take 176) once.0 ∙ sym v.given))

-- `correct`
pub correct_once : (received before : List ℕ) (r s : Result Corrected Refusal) (x y : List ℕ) → are_bytes x ≡ true → are_bytes y ≡ true
    → Corrects received before x (told_corrected r) → Corrects received before y (told_corrected s) → (r ≡ s) × (x ≡ y)
correct_once received before r s x y bx by u v =
    let once = told_correct_once received before (told_corrected r) (told_corrected s) x y bx by u v in (corrected_once r s once.0, once.1)

-- `read_block`
pub read_block_once : (received before : List ℕ) (r s : Result Corrected Unread) (x y : List ℕ) → are_bytes x ≡ true → are_bytes y ≡ true
    → Reads received before x (told_read r) → Reads received before y (told_read s) → (r ≡ s) × (x ≡ y)
read_block_once received before r s x y bx by u v =
    let once = told_read_once received before (told_read r) (told_read s) x y bx by u v in (read_once r s once.0, once.1)

-- `write_block`
pub write_block_once : (information before : List ℕ) (r s : Result Unit Refusal) (x y : List ℕ) → are_bytes x ≡ true → are_bytes y ≡ true → Writes information before x r → Writes information before y s → (r ≡ s) × (x ≡ y)
write_block_once information before r s x y bx by (inl u) (inl v) = (paper_once r s (u.answers ∙ sym v.answers), u.same ∙ sym v.same)
write_block_once information before r s x y bx by (inl u) (inr v) = absurd (u.wrong v.sized)
write_block_once information before r s x y bx by (inr u) (inl v) = absurd (v.wrong u.sized)
write_block_once information before r s x y bx by (inr u) (inr v) =
    (paper_once r s (u.answers ∙ sym v.answers), row_once x y bx by (u.long ∙ sym v.long) (u.written ∙ sym v.written))

-- `Refusal::from`
pub from_once : (unread : Unread) (r s : Refusal) → r ≡ refusal_of unread → s ≡ refusal_of unread → r ≡ s
from_once unread r s p q = p ∙ sym q
