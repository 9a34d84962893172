use Rattle.std.proofs.Common.{◌∙◌}
use Rattle.summary.proofs.Texts.{grows_same, grows_then}
use Rattle.summary.proofs.Units.{expansion_whole, expansion_parts, expansion_units}
use Rattle.summary.proofs.binary.put_exactly.Goals as goal

pub returns-then-rest-ne0 : goal.returns-then-rest-ne0
returns-then-rest-ne0 c =
    let u = c.units-units in
    grows_same (expansion_parts u.result c.if-rest-ne0.true ∙ expansion_units c.args.number u.result u.ensures.value)
    (grows_then c.put_number.ensures (grows_then c.put.ensures c.put_decimals.ensures))

pub returns-else-rest-ne0 : goal.returns-else-rest-ne0
returns-else-rest-ne0 c =
    let u = c.units-units in
    grows_same (expansion_whole u.result c.if-rest-ne0.false ∙ expansion_units c.args.number u.result u.ensures.value) c.put_number.ensures
