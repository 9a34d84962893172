-- NO TWO OUTCOMES MEET THE PROMISE of this crate's public function: what it returns, and the frame, where it holds bytes. Assumes nothing.
use mathlib.Core.Path.{◌≡◌, refl, sym, ap, ◌∙◌}
use mathlib.Core.Bool.{true}
use mathlib.Core.List.{List}
use mathlib.Core.Logic.{inl, inr}
use Prim.Native.Nat.{ℕ}
use lib.Pow.{are_bytes}
use Rattle.std.specs.Prelude.{Result, Ok, Err}
use Rattle.answers.specs.Numbers.{number_of}
use Rattle.answers.specs.declared.Refusal.{Refusal}
use Rattle.answers.proofs.Determined.{refusal_once, refused_once, refused_accepted}
use Rattle.frame.specs.declared.CorrectedFrame.{CorrectedFrame}
use Rattle.frame.specs.Frames.{Frame, frame_of, turned_round, Stage, ToldFrame, told_frame, CorrectsFrame}
use Rattle.frame.proofs.Frames.{SameRows, turned_same, frame_once}
use Rattle.frame.proofs.Stages.{stage_same, stage_once}

-- what is told determines what is returned
frame_once_told : (r s : Result CorrectedFrame Refusal) → told_frame r ≡ told_frame s → r ≡ s
frame_once_told (Ok r) (Ok s) e = λ i. Ok (record { refused_rows = (e i).refused_rows; refused_columns = (e i).refused_columns })
frame_once_told (Ok r) (Err w) e = absurd (refused_accepted (number_of w) (sym (ap (λ (t : ToldFrame). t.answer) e)))
frame_once_told (Err v) (Ok s) e = absurd (refused_accepted (number_of v) (ap (λ (t : ToldFrame). t.answer) e))
frame_once_told (Err v) (Err w) e = ap Err (refusal_once v w (refused_once (number_of v) (number_of w) (ap (λ (t : ToldFrame). t.answer) e)))

told : (t u : ToldFrame) → t.answer ≡ u.answer → t.refused_rows ≡ u.refused_rows → t.refused_columns ≡ u.refused_columns → t ≡ u
told t u answer rows columns = λ i. record { answer = answer i; refused_rows = rows i; refused_columns = columns i }

-- the second stage, of frames with the same rows
columns_once : {f g : Frame} (x y : List ℕ) {i j : ℕ} → SameRows f g → Stage (turned_round f) (turned_round (frame_of x)) 272 i → Stage (turned_round g) (turned_round (frame_of y)) 272 j
    → SameRows (frame_of x) (frame_of y) × (i ≡ j)
columns_once {f} {g} x y same s t =
    let once = stage_once (stage_same (turned_same f g same) (λ m l. refl) s) t in
    (turned_same (turned_round (frame_of x)) (turned_round (frame_of y)) once.0, once.1)

told_frame_once : (received : List ℕ) (t w : ToldFrame) (x y : List ℕ) → are_bytes x ≡ true → are_bytes y ≡ true → CorrectsFrame received x t → CorrectsFrame received y w → (t ≡ w) × (x ≡ y)
told_frame_once received t w x y bx by (inl u) (inl v) =
    (told t w (u.answers ∙ sym v.answers) (u.no_rows ∙ sym v.no_rows) (u.no_columns ∙ sym v.no_columns), u.same ∙ sym v.same)
told_frame_once received t w x y bx by (inl u) (inr v) = absurd (u.wrong v.sized)
told_frame_once received t w x y bx by (inr u) (inl v) = absurd (v.wrong u.sized)
told_frame_once received t w x y bx by (inr u) (inr v) =
    let rows = stage_once u.rows v.rows in
    let columns = columns_once x y rows.0 u.columns v.columns in
    (told t w (u.answers ∙ sym v.answers) rows.1 columns.1, frame_once x y bx by u.long v.long columns.0)

-- `correct_frame`
pub correct_frame_once : (received : List ℕ) (r s : Result CorrectedFrame Refusal) (x y : List ℕ) → are_bytes x ≡ true → are_bytes y ≡ true
    → CorrectsFrame received x (told_frame r) → CorrectsFrame received y (told_frame s) → (r ≡ s) × (x ≡ y)
correct_frame_once received r s x y bx by u v =
    let once = told_frame_once received (told_frame r) (told_frame s) x y bx by u v in (frame_once_told r s once.0, once.1)
