use Rattle.std.proofs.Common.{rules, ◌≡◌, true, refl, sym, ap, ◌∙◌}
use lib.Dec.{T}
use lib.Ieee.{binary64, fits}
use Rattle.logs.specs.declared.Counts.{Counts}
use Rattle.logs.specs.Log.{is_counts}
use Rattle.summary.specs.declared.Summary.{Summary}
use Rattle.summary.specs.Summary.{summary_of}
use Rattle.summary.specs.Report.{delivered}
use Rattle.summary.specs.Export.{sheet_row, is_summary, exported_of}
use Rattle.summary.proofs.Exactly.{row_fits}
use Rattle.summary.proofs.Same.{summary_given}
use Rattle.summary.proofs.Texts.{told_whole}
use Rattle.summary.proofs.export.Goals as goal

pub returns : goal.returns
unfolding exported_of
returns c =
    let a = c.args in
    let own = c.in_ok-accepted.accepted.counts in
    let e : own ≡ a.counts = search rules in
    let k : is_counts a.counts ≡ true = search rules in
    let l : is_counts own ≡ true = search rules in
    let f : T (fits binary64 a.summary.mean) = search rules in
    let g : T (fits binary64 a.summary.missing) = search rules in
    let s : is_summary a.summary (summary_of a.counts) ≡ true = ap (λ (n : Counts). is_summary a.summary (summary_of n)) (sym e) ∙ sym c.has_summary.ensures ∙ search rules in
    told_whole a.out.now c.deliver.ensures c.new-text.ensures (row_fits own (summary_of own) refl l) c.put_row.ensures
    ∙ ap (λ (n : Counts). delivered (sheet_row n (summary_of n)) a.out.now) e
    ∙ ap (λ (t : Summary). delivered (sheet_row a.counts t) a.out.now) (sym (summary_given a.summary a.counts f g k s))
    ∙ sym (rw (k, s))
