use Rattle.std.proofs.Common.{◌≡◌, length, rules, arith}
use Rattle.logs.proofs.Slots.{numeral_more}
use Rattle.logs.proofs.slot.numeral.Goals as goal

pub loop-i-preserved : goal.loop-i-preserved
loop-i-preserved c =
    let p = c.loop-i in
    let n : length c.args.text.now ≡ 9 = search rules in
    let d = c.if-not-is_ascii_digit.ensures.cases in
    rw c.from.ensures (numeral_more c.args.text.now p.i p.number p.invariant.0 (omega arith) (omega arith) p.invariant.1 d.0 d.1, p.invariant.1)
