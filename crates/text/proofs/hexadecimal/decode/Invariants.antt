-- `text::hexadecimal::decode`: what is written are the first of the bytes; behind it nothing is changed. Assumes nothing.
use Rattle.std.proofs.Common.{◌≡◌, ◌++◌, take, drop}
use Rattle.text.specs.Hexadecimal.{decoded}
use Rattle.text.proofs.hexadecimal.decode.Given as goal

abbrev pub invariant-loop-i : goal.invariant-loop-i
invariant-loop-i l = l.output ≡ take l.i (decoded l.digits) ++ drop l.i l.initial.output
