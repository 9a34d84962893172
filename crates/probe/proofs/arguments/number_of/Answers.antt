-- `probe::arguments::number_of`: one comparison tells the patterns of what is no number. Assumes nothing.
use lib.Ieee.Bits.{nan_bits_above}
use lib.Ieee.{binary64, nan_bits}
use lib.Dec.{T}
use borrow.Author.Tests.{le-ltb}
use mathlib.Core.Bool.{Bool, false, not}
use mathlib.Core.Path.{◌≡◌, sym, subst, ◌∙◌}
use Rattle.probe.proofs.arguments.number_of.Goals as goal

pub float_from_bits-result : goal.float_from_bits-result
float_from_bits-result c =
    let number : nan_bits binary64 c.args.bits ≡ false = nan_bits_above binary64 c.args.bits ∙ le-ltb _ _ c.if-bits-gt9218868437227405312.false in
    subst (λ (b : Bool). T (not b)) (sym number) tt
