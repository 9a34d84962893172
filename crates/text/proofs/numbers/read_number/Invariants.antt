-- `text::numbers::read_number`: the value, read on over the digits not yet seen, is the answer. Assumes nothing.
use Rattle.std.proofs.Common.{◌≡◌, ◌≤◌, drop}
use Rattle.text.specs.Numbers.{read_number_of, digits_from}
use Rattle.text.proofs.numbers.read_number.Given as goal

abbrev pub invariant-loop-byte : goal.invariant-loop-byte
invariant-loop-byte l = (l.value ≤ l.most) × (read_number_of l.most l.digits ≡ digits_from l.most l.value (drop l.byte-index l.digits))
