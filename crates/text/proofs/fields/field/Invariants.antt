-- `text::fields::field`: the field that is still to be found in the rest is the one asked for. Assumes nothing.
use Rattle.std.proofs.Common.{◌≡◌, ◌-◌}
use Rattle.text.specs.Fields.{field_of}
use Rattle.text.proofs.fields.field.Given as goal

abbrev pub invariant-loop : goal.invariant-loop
invariant-loop l = field_of (l.index - l.counter) l.rest ≡ field_of l.index l.line
