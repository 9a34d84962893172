-- `text::fields::arguments`: the count is that of the tabs already seen. Assumes nothing.
use Rattle.std.proofs.Common.{◌≡◌, take}
use Rattle.text.specs.Fields.{tabs}
use Rattle.text.proofs.fields.arguments.Given as goal

abbrev pub invariant-loop-byte : goal.invariant-loop-byte
invariant-loop-byte l = l.count ≡ tabs (take l.byte-index l.line)
