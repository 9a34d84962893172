use Rattle.std.proofs.Common.{arith}
use Rattle.std.proofs.lemmas.Grind.{common_steps}
use Rattle.text.proofs.Laws.{stored, decoded_at, length-decoded}
use Rattle.text.proofs.hexadecimal.decode.Goals as goal

pub loop-i-preserved : goal.loop-i-preserved
loop-i-preserved c =
    let s = c.args.digits.now in
    let pair = decoded_at s c.loop-i.i c.value-high.result c.value-low.result (omega arith) c.value-high.ensures c.value-low.ensures in
    stored _ _ _ _ _ c.loop-i.invariant (omega (arith, length-decoded s)) (omega arith) pair

pub returns : goal.returns
returns c = grind (arith, common_steps, length-decoded c.args.digits.now)
