-- The corrector's promise, of a row that is corrected where it stands: no other file of this crate opens it. Assumes nothing.
use mathlib.Core.Path.{◌≡◌, sym, ap, ◌∙◌, subst}
use mathlib.Core.Bool.{Bool}
use mathlib.Core.List.{List, ◌++◌, append-nil}
use mathlib.Core.Logic.{inl, inr}
use Prim.Native.Nat.{ℕ}
use native.Mathlib.Omega.{arith}
use lib.ListN.{length, take, drop, replicate, drop_of_length-le, length-replicate}
use lib.Seq.{take-length}
use Rattle.std.specs.Prelude.{Result, Ok, Err}
use Rattle.std.specs.Result.{is_err}
use Rattle.gf2.specs.Poly.{bit}
use Rattle.answers.specs.declared.Refusal.{Refusal}
use Rattle.answers.specs.Numbers.{number_of}
use Rattle.answers.proofs.Determined.{refused_accepted}
use Rattle.words.specs.Bytes.{row_of}
use Rattle.block.specs.declared.Corrected.{Corrected}
use Rattle.block.specs.Told.{told_corrected}
use Rattle.block.specs.Corrector.{Corrects}
use Rattle.frame.specs.Frames.{Becomes, corrected, kept}

-- all of a row's bytes are copied
pub all_copied : (row : List ℕ) → length row ≡ 34 → take (length row) row ++ drop (length row) (replicate 34 0) ≡ row
all_copied row l =
    (λ i. take-length row i ++ drop_of_length-le (replicate 34 0) {i = length row} (omega (arith, length-replicate {A = ℕ} 34 0)) i) ∙ append-nil row

module _ (received before after : List ℕ) (l : length before ≡ 34) (same : received ≡ before) where
  pub row_becomes : (r : Result Corrected Refusal) → Corrects received before after (told_corrected r) → Becomes (row_of before) (row_of after) (bit (is_err r))
  row_becomes r (inl w) = absurd (w.wrong (record { input = ap length same ∙ l; output = l }))
  row_becomes (Ok r) (inr (inl n)) = absurd (refused_accepted 2 (sym n.answers))
  row_becomes (Ok r) (inr (inr w)) =
      subst (λ (xs : List ℕ). Becomes (row_of xs) (row_of after) 0) same
      (subst (λ (x : List Bool). Becomes (row_of received) x 0) (sym w.written) (corrected w.found.code w.found.near))
  row_becomes (Err refusal) (inr (inl n)) =
      subst (λ (xs : List ℕ). Becomes (row_of xs) (row_of after) 1) same (kept n.none (ap row_of (n.same ∙ sym same)))
  row_becomes (Err refusal) (inr (inr w)) = absurd (refused_accepted (number_of refusal) w.answers)
