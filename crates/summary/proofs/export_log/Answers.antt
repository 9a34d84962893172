use mathlib.Core.List.{◌++◌}
use Rattle.logs.specs.Log.{is_counts}
use Rattle.summary.specs.Summary.{summary_of}
use Rattle.summary.specs.Export.{sheet_row, sheet_names, sheet_of, export_log_of}
use Rattle.summary.proofs.Texts.{log_told}
use Rattle.summary.proofs.export_log.Goals as goal

pub returns-clause-out_after : goal.returns-clause-out_after
unfolding export_log_of sheet_of
returns-clause-out_after c =
    let l = c.args.log in
    let text = sheet_names ++ sheet_row l.counts (summary_of l.counts) in
    (log_told _ _ l.answer l.counts l.line c.args.out.now c.write_log.new.out c.write_log.result (is_counts l.counts) text (λ lent back e. e.1) c.write_log.ensures).0

pub returns-clause-length_in_bounds : goal.returns-clause-length_in_bounds
unfolding sheet_of
returns-clause-length_in_bounds c =
    let l = c.args.log in
    let text = sheet_names ++ sheet_row l.counts (summary_of l.counts) in
    (log_told _ _ l.answer l.counts l.line c.args.out.now c.write_log.new.out c.write_log.result (is_counts l.counts) text (λ lent back e. e.1) c.write_log.ensures).1
