-- Frames whose rows and columns are all code words, received as they are or with at most eight wrong bits in each row. Assumes nothing.
use mathlib.Core.Path.{◌≡◌, refl}
use mathlib.Core.Bool.{Bool, true}
use mathlib.Core.List.{List}
use mathlib.Core.Logic.{inl, inr}
use Prim.Native.Nat.{ℕ, ◌<◌, ◌≤◌}
use native.Mathlib.Omega.{arith}
use lib.ListN.{length}
use lib.Pow.{are_bytes}
use Rattle.answers.specs.Numbers.{accepted}
use Rattle.code.specs.Code.{CodeWord, distance, most_corrected}
use Rattle.words.proofs.Outcomes.{distance_self}
use Rattle.frame.specs.Frames.{Frame, frame_of, turned_round, row_in, corrected, Stage, ToldFrame, TwoStages, CorrectsFrame, CodeFrame}
use Rattle.frame.proofs.Frames.{turned_same, frame_once}
use Rattle.frame.proofs.Stages.{stage_same, stage_near}

own : (row : List Bool) → distance row row ≤ most_corrected
own row = omega (arith, distance_self row)

-- code words stay in a stage
code_stays : {f g : Frame} {i : ℕ} → ((n : ℕ) → n < 272 → CodeWord (row_in f n)) → Stage f g 272 i → ((n : ℕ) → n < 272 → row_in g n ≡ row_in f n) × (i ≡ 0)
code_stays {f} code s = stage_near f (λ n l. corrected (code n l) (own (row_in f n))) s

-- WHERE EACH COLUMN IS A CODE WORD AFTER THE ROW STAGE, none is changed and none refused
pub columns_stay : (received after : List ℕ) (r : ToldFrame) (two : TwoStages received after r) → ((n : ℕ) → n < 272 → CodeWord (row_in (turned_round two.after_rows) n))
    → ((n : ℕ) → n < 272 → row_in (turned_round (frame_of after)) n ≡ row_in (turned_round two.after_rows) n) × (r.refused_columns ≡ 0)
columns_stay received after r two code = code_stays code two.columns

module _ (sent received after : List ℕ) (r : ToldFrame) (code : CodeFrame sent)
    (near : (n : ℕ) → n < 272 → distance (row_in (frame_of received) n) (row_in (frame_of sent) n) ≤ most_corrected) where
  -- A ROW STAGE THAT CORRECTS EVERY ROW LEAVES NOTHING FOR THE COLUMNS: after it each row is the one that was sent, and then so is each column, and nothing is refused
  pub nothing_left : (two : TwoStages received after r)
      → ((n : ℕ) → n < 272 → row_in two.after_rows n ≡ row_in (frame_of sent) n) × ((n : ℕ) → n < 272 → row_in (turned_round (frame_of after)) n ≡ row_in (turned_round (frame_of sent)) n)
      × (r.refused_rows ≡ 0) × (r.refused_columns ≡ 0)
  nothing_left two =
      let rows = stage_near (frame_of sent) (λ n l. corrected (code.rows n l) (near n l)) two.rows in
      let columns = code_stays code.columns (stage_same (turned_same two.after_rows (frame_of sent) rows.0) (λ n l. refl) two.columns) in
      (rows.0, columns.0, rows.1, columns.1)

  -- so the frame is the one that was sent
  pub rows_corrected : are_bytes sent ≡ true → are_bytes after ≡ true → length received ≡ 9248 → CorrectsFrame received after r
      → (r.answer ≡ accepted) × (after ≡ sent) × (r.refused_rows ≡ 0) × (r.refused_columns ≡ 0)
  rows_corrected sent_bytes after_bytes l (inl w) = absurd (w.wrong l)
  rows_corrected sent_bytes after_bytes l (inr two) =
      let left = nothing_left two in (
        two.answers,
        frame_once after sent after_bytes sent_bytes two.long code.sized (turned_same (turned_round (frame_of after)) (turned_round (frame_of sent)) left.1),
        left.2,
        left.3,
      )

-- A FRAME WHOSE ROWS AND COLUMNS ARE ALL CODE WORDS IS LEFT AS IT IS, nothing refused
pub code_frame_stays : (frame after : List ℕ) (r : ToldFrame) → CodeFrame frame → are_bytes frame ≡ true → are_bytes after ≡ true → CorrectsFrame frame after r
    → (r.answer ≡ accepted) × (after ≡ frame) × (r.refused_rows ≡ 0) × (r.refused_columns ≡ 0)
code_frame_stays frame after r code frame_bytes after_bytes =
    rows_corrected frame frame after r code (λ n l. own (row_in (frame_of frame) n)) frame_bytes after_bytes code.sized
