use Rattle.std.proofs.Common.{rules, arith, ◌≡◌, sym, ap, subst, ℕ, Result, MatchResult}
use Rattle.answers.specs.declared.Refusal.{Refusal}
use Rattle.answers.specs.Numbers.{number_of}
use Rattle.text.specs.Ascii.{tab}
use Rattle.logs.specs.Decimal.{decimal}
use Rattle.summary.specs.Report.{told_text, ended, delivered, refusal_line}
use Rattle.summary.specs.Building.{Wrote}
use Rattle.summary.proofs.Fits.{refusal_fits}
use Rattle.summary.proofs.Texts.{told_whole, grows_then, grows_same}
use Rattle.summary.proofs.write_log.Goals as goal

pub returns-in-Err : goal.returns-in-Err
unfolding refusal_line
returns-in-Err g c =
    let a = c.args in
    let refusal = c.in-Err.refusal in
    let e : told_text c.deliver.result c.deliver.new.out ≡ delivered (refusal_line (number_of refusal) a.log.line) a.out.now =
    told_whole a.out.now c.deliver.ensures c.new-text.ensures (omega (arith, refusal_fits (number_of refusal) a.log.line))
    (grows_then c.put.ensures
    (grows_then (grows_same (ap (λ (n : ℕ). ended (decimal n) tab) (search rules)) c.put_field.ensures) c.put_field-in-Err.ensures))
    in
    subst
    (λ (r : Result Unit Refusal).
    MatchResult r (λ u. Wrote g.F.FnOnce a.write a.log.counts a.out.now c.deliver.result c.deliver.new.out)
    (λ refusal. told_text c.deliver.result c.deliver.new.out ≡ delivered (refusal_line (number_of refusal) a.log.line) a.out.now))
    (sym c.in-Err.is) e
