use Rattle.std.proofs.Common.{◌+◌, ◌-◌, sym, ◌∙◌, arith}
use Rattle.text.proofs.Laws.{field_none, field_behind}
use Rattle.text.proofs.fields.field.Goals as goal

pub returns-in_default : goal.returns-in_default
returns-in_default c =
    sym (field_none (c.args.index - c.loop.counter) c.loop.rest.now _ _ c.find.ensures.first c.split_at.ensures.back c.in_default.ensures.cases (omega arith)) ∙ c.loop.invariant

pub loop-preserved : goal.loop-preserved
loop-preserved c =
    field_behind (c.args.index - (c.loop.counter + 1)) (c.args.index - c.loop.counter) c.loop.rest.now _ _ _ _ c.find.ensures.first c.split_at.ensures.back c.in-Some.ensures.cases.0 (omega arith) ∙ c.loop.invariant
