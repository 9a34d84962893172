use Rattle.std.proofs.Common.{rules, arith, ◌≡◌, true, sym, ap, ◌∙◌}
use Rattle.logs.specs.declared.Counts.{Counts}
use Rattle.logs.specs.Log.{is_counts}
use Rattle.summary.specs.Report.{report_of, delivered, reported_of}
use Rattle.summary.proofs.Fits.{report_fits}
use Rattle.summary.proofs.Texts.{told_whole}
use Rattle.summary.proofs.report.Goals as goal

pub returns : goal.returns
unfolding reported_of
returns c =
    let own = c.in_ok-accepted.accepted.counts in
    let e : own ≡ c.args.counts = search rules in
    let k : is_counts c.args.counts ≡ true = search rules in
    told_whole c.args.out.now c.deliver.ensures c.new-text.ensures (omega (arith, report_fits own)) c.put_report.ensures
    ∙ ap (λ (n : Counts). delivered (report_of n) c.args.out.now) e ∙ sym (rw k)
