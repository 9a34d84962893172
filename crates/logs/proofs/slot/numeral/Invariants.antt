use Rattle.std.proofs.Common.{◌≡◌, get_or}
use Rattle.text.specs.Ascii.{byte}
use Rattle.logs.specs.Machine.{Numeral}
use Rattle.logs.proofs.slot.numeral.Given as goal

abbrev pub invariant-loop-i : goal.invariant-loop-i
invariant-loop-i l = Numeral l.text l.i l.number × (get_or l.text 0 0 ≡ byte "0" → ⊥)
