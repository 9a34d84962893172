use Rattle.std.proofs.Common.{sym, subst}
use Rattle.summary.proofs.Texts.{grows_then, grows_same, mean_some, mean_none}
use Rattle.summary.specs.Report.{line, thousandths}
use Rattle.summary.specs.Building.{Grows}
use Rattle.summary.specs.declared.building.Text.{Text}
use Rattle.summary.proofs.put_mean.Goals.{in-Some, in-None}
use Rattle.summary.proofs.put_mean.Goals as goal

pub returns : goal.returns
unfolding line
returns c =
    let bits = c.args.counts.bits in
    let read = c.args.counts.read in
    let grown : Grows c.put.new.self (thousandths bits read) c.match-checked_div.text =
    elim c.match-checked_div.branch [
      | in-Some w ↦
          let k = w.in-Some.ensures in
          subst (λ (t : Text). Grows c.put.new.self (thousandths bits read) t) (sym w.text-is)
          (grows_same (mean_some bits read c.from.result c.from-2.result w.in-Some.thousandths c.from.ensures c.from-2.ensures k.0 k.1) w.put_number.ensures)
      | in-None w ↦
          subst (λ (t : Text). Grows c.put.new.self (thousandths bits read) t) (sym w.text-is)
          (grows_same (mean_none bits read c.from-2.result c.from-2.ensures w.in-None.ensures) w.put-in-None.ensures)
    ]
    in
    grows_then c.put.ensures (grows_then grown c.put-2.ensures)
