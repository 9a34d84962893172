use Rattle.logs.specs.Log.{is_counts}
use Rattle.summary.specs.Report.{report_of, reported_of, report_log_of}
use Rattle.summary.proofs.Texts.{log_told}
use Rattle.summary.proofs.report_log.Goals as goal

pub returns-clause-out_after : goal.returns-clause-out_after
unfolding report_log_of reported_of
returns-clause-out_after c =
    let l = c.args.log in
    (log_told _ _ l.answer l.counts l.line c.args.out.now c.write_log.new.out c.write_log.result (is_counts l.counts) (report_of l.counts) (λ lent back e. e.1) c.write_log.ensures).0

pub returns-clause-length_in_bounds : goal.returns-clause-length_in_bounds
unfolding reported_of
returns-clause-length_in_bounds c =
    let l = c.args.log in
    (log_told _ _ l.answer l.counts l.line c.args.out.now c.write_log.new.out c.write_log.result (is_counts l.counts) (report_of l.counts) (λ lent back e. e.1) c.write_log.ensures).1
