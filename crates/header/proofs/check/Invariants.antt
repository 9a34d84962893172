-- `header::check`: what the bits so far are, with those from this place on behind them, is the whole number. Assumes nothing.
use Rattle.header.proofs.Bits.{onto}
use Rattle.header.specs.Header.{bits, six, check}
use Rattle.gf2.specs.Poly.{check_of}
use lib.ListN.{drop}
use mathlib.Core.Path.{◌≡◌}
use Prim.Native.Nat.{◌<◌, ◌^◌}
use Rattle.header.proofs.check.Given as goal

abbrev pub invariant-loop-mask : goal.invariant-loop-mask
invariant-loop-mask l = (l.bits < 2 ^ l.mask-index) × (onto l.bits (drop l.mask-index (check_of six (bits 64 l.fields))) ≡ check 64 l.fields)
