use Rattle.std.proofs.Common.{rules, ap, ◌∙◌}
use Rattle.summary.specs.Export.{sheet_row}
use Rattle.summary.proofs.Same.{mean_given, missing_given}
use Rattle.summary.proofs.Texts.{grows_same, grows_then, tabbed_next, tabbed_out, cell_some, some_measured, row_is}
use Rattle.summary.proofs.Accepted.put_row.Goals as goal

pub loop-number-preserved : goal.loop-number-preserved
loop-number-preserved c =
    let p = c.loop-number in
    λ rest v g. p.invariant rest v (grows_same (tabbed_next _ p.number-index _ rest c.loop-number-test.true) (grows_then c.put_field.ensures g))

pub put_cell-requires : goal.put_cell-requires
put_cell-requires c =
    some_measured c.summary-summary.result.mean_exists _ c.then_some.ensures (mean_given _ c.args.self.counts c.summary-summary.ensures (search rules))

pub put_cell-requires-2 : goal.put_cell-requires-2
put_cell-requires-2 c =
    some_measured c.summary-summary.result.missing_exists _ c.then_some-2.ensures (missing_given _ c.args.self.counts c.summary-summary.ensures (search rules))

pub returns : goal.returns
returns c =
    let counts = c.args.self.counts in
    let s = c.summary-summary.result in
    let p = c.loop-number in
    let mean = grows_same (cell_some s.mean_exists s.mean c.then_some.ensures) c.put_cell.ensures in
    let missing = grows_same (cell_some s.missing_exists s.missing c.then_some-2.ensures) c.put_cell-2.ensures in
    grows_same (row_is counts s c.from.result c.frequency.result c.from.ensures c.frequency.ensures ∙ ap (sheet_row counts) c.summary-summary.ensures)
    (p.invariant _ _
    (grows_same (tabbed_out _ p.number-index _ c.loop-number-test.false) (grows_then (grows_then mean c.put.ensures) (grows_then missing c.put-2.ensures))))
