-- `frame::correct_frame`: one stage after the other. Assumes nothing.
use mathlib.Core.Logic.{inr}
use mathlib.Core.Path.{refl, subst}
use mathlib.Core.List.{List}
use Prim.Native.Nat.{ℕ}
use native.Mathlib.Omega.{arith}
use Rattle.frame.specs.Frames.{frame_of, Stage}
use Rattle.frame.proofs.correct_frame.Goals as goal

pub returns : goal.returns
returns c =
    let rows = c.correct_rows-refused_rows in
    let columns = c.correct_columns-refused_columns in
    let whole = c.in-Some.ensures.cases in
    inr (record {
      sized = whole.long;
      after_rows = frame_of rows.new.frame;
      rows = subst (λ (bytes : List ℕ). Stage (frame_of bytes) (frame_of rows.new.frame) 272 rows.result) whole.same rows.ensures;
      columns = columns.ensures;
      answers = refl;
      long = omega (arith, whole.long);
    })
