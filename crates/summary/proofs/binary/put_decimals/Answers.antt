use Rattle.std.proofs.Common.{arith, ◌-◌}
use Rattle.summary.proofs.Texts.{grows_none, grows_same, grows_then}
use Rattle.summary.proofs.Units.{decimals_more, decimals_none, decimals_out}
use Rattle.summary.proofs.binary.put_decimals.Goals as goal

pub returns-then-rest-eq0 : goal.returns-then-rest-eq0
returns-then-rest-eq0 c = c.loop.invariant.1 _ (grows_same (decimals_none _ c.loop.rest c.if-rest-eq0.true) (grows_none _))

pub loop-preserved : goal.loop-preserved
loop-preserved c =
    let p = c.loop in (
      omega arith,
      λ v g.
          p.invariant.1 v
          (grows_same (decimals_more (1074 - p.counter) _ p.rest (omega (arith, c.loop-test.true)) c.if-rest-eq0.false) (grows_then c.put.ensures g)),
    )

pub returns : goal.returns
returns c = c.loop.invariant.1 _ (grows_same (decimals_out _ c.loop.rest (omega (arith, c.loop-test.false))) (grows_none _))
