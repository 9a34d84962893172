use Rattle.std.proofs.Common.{◌-◌, ◌^◌, ◌<◌}
use Rattle.summary.specs.Building.{Grows}
use Rattle.summary.specs.Export.{decimals}
use Rattle.summary.specs.declared.building.Text.{Text}
use Rattle.summary.proofs.binary.put_decimals.Given as goal

abbrev pub invariant-loop : goal.invariant-loop
invariant-loop l =
    (l.rest < 2 ^ 72)
    × ((v : Text) → Grows l.text (decimals (1074 - l.counter) l.rest (2 ^ 72)) v → Grows l.initial.text (decimals 1074 l.fraction (2 ^ 72)) v)
