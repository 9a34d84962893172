use Rattle.std.proofs.Common.{rules, ◌≡◌, true, refl, sym, ap, ◌∙◌, ◌++◌}
use Rattle.logs.specs.declared.Counts.{Counts}
use Rattle.logs.specs.Log.{is_counts}
use Rattle.summary.specs.Summary.{summary_of}
use Rattle.summary.specs.Report.{delivered}
use Rattle.summary.specs.Export.{sheet_row, sheet_names, sheet_of}
use Rattle.summary.proofs.Exactly.{sheet_fits}
use Rattle.summary.proofs.Texts.{told_whole, grows_then}
use Rattle.summary.proofs.sheet.Goals as goal

pub returns : goal.returns
unfolding sheet_of sheet_names
returns c =
    let own = c.in_ok-accepted.accepted.counts in
    let e : own ≡ c.args.counts = search rules in
    let k : is_counts c.args.counts ≡ true = search rules in
    let l : is_counts own ≡ true = search rules in
    told_whole c.args.out.now c.deliver.ensures c.new-text.ensures (sheet_fits own (summary_of own) refl l) (grows_then c.put.ensures c.put_row.ensures)
    ∙ ap (λ (n : Counts). delivered (sheet_names ++ sheet_row n (summary_of n)) c.args.out.now) e ∙ sym (rw k)
