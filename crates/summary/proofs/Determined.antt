-- No two outcomes of a public function meet its promise. Assumes nothing.
use Prim.Native.Nat.{ℕ}
use mathlib.Core.Path.{◌≡◌, ap, sym, ◌∙◌}
use mathlib.Core.List.{List}
use Rattle.std.specs.Prelude.{Result, Ok, Err}
use Rattle.answers.specs.declared.Refusal.{Refusal}
use Rattle.answers.specs.Numbers.{number_of}
use Rattle.answers.proofs.Determined.{refusal_once, refused_accepted, refused_once}
use Rattle.logs.specs.declared.Counts.{Counts}
use Rattle.logs.specs.declared.LogRead.{LogRead}
use Rattle.summary.specs.declared.Summary.{Summary}
use Rattle.summary.specs.Summary.{ToldSummary, told_summary, summarised_of}
use Rattle.summary.specs.Report.{ToldText, told_text, reported_of, report_log_of}
use Rattle.summary.specs.Export.{exported_of, export_log_of}

-- what is told determines the result
summary_told : (r s : Result Summary Refusal) → told_summary r ≡ told_summary s → r ≡ s
summary_told (Ok a) (Ok b) e = ap Ok (ap (λ (t : ToldSummary). t.summary) e)
summary_told (Ok a) (Err b) e = absurd (refused_accepted (number_of b) (sym (ap (λ (t : ToldSummary). t.answer) e)))
summary_told (Err a) (Ok b) e = absurd (refused_accepted (number_of a) (ap (λ (t : ToldSummary). t.answer) e))
summary_told (Err a) (Err b) e = ap Err (refusal_once a b (refused_once _ _ (ap (λ (t : ToldSummary). t.answer) e)))

-- and the length and every byte of the output
text_told : (r s : Result ℕ Refusal) (x y : List ℕ) → told_text r x ≡ told_text s y → (r ≡ s) × (x ≡ y)
text_told (Ok a) (Ok b) x y e = (ap Ok (ap (λ (t : ToldText). t.length) e), ap (λ (t : ToldText). t.out) e)
text_told (Ok a) (Err b) x y e = absurd (refused_accepted (number_of b) (sym (ap (λ (t : ToldText). t.answer) e)))
text_told (Err a) (Ok b) x y e = absurd (refused_accepted (number_of a) (ap (λ (t : ToldText). t.answer) e))
text_told (Err a) (Err b) x y e =
    (ap Err (refusal_once a b (refused_once _ _ (ap (λ (t : ToldText). t.answer) e))), ap (λ (t : ToldText). t.out) e)

-- THE PROMISE OF `summarise` DETERMINES THE ANSWER AND THE RECORD
pub summarise_once : (counts : Counts) (r s : Result Summary Refusal) → told_summary r ≡ summarised_of counts → told_summary s ≡ summarised_of counts
    → r ≡ s
summarise_once counts r s u v = summary_told r s (u ∙ sym v)

-- THAT OF `report` THE ANSWER, THE LENGTH AND EVERY BYTE
pub report_once : (counts : Counts) (out x y : List ℕ) (r s : Result ℕ Refusal) → told_text r x ≡ reported_of counts out → told_text s y ≡ reported_of counts out
    → (r ≡ s) × (x ≡ y)
report_once counts out x y r s u v = text_told r s x y (u ∙ sym v)

-- AND SO THAT OF `export`
pub export_once : (counts : Counts) (summary : Summary) (out x y : List ℕ) (r s : Result ℕ Refusal) → told_text r x ≡ exported_of counts summary out
    → told_text s y ≡ exported_of counts summary out → (r ≡ s) × (x ≡ y)
export_once counts summary out x y r s u v = text_told r s x y (u ∙ sym v)

-- THOSE OF `report_log` AND `export_log` TOO
pub report_log_once : (log : LogRead) (out x y : List ℕ) (r s : Result ℕ Refusal) → told_text r x ≡ report_log_of log out → told_text s y ≡ report_log_of log out
    → (r ≡ s) × (x ≡ y)
report_log_once log out x y r s u v = text_told r s x y (u ∙ sym v)

pub export_log_once : (log : LogRead) (out x y : List ℕ) (r s : Result ℕ Refusal) → told_text r x ≡ export_log_of log out → told_text s y ≡ export_log_of log out
    → (r ≡ s) × (x ≡ y)
export_log_once log out x y r s u v = text_told r s x y (u ∙ sym v)
