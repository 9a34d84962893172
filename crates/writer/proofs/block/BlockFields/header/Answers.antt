-- `BlockFields::header`: the fields as the code sums them up, and their check. Assumes nothing.
use mathlib.Core.Path.{◌≡◌, refl, ◌∙◌}
use mathlib.Core.Bool.{Bool, true, false}
use mir.Val.{bool_byte}
use Rattle.gf2.specs.Poly.{bit}
use Rattle.writer.proofs.Writing.{block_header}
use Rattle.writer.proofs.block.BlockFields.header.Goals as goal

byte_bit : (b : Bool) → bool_byte b ≡ bit b
byte_bit true = refl
byte_bit false = refl

pub returns : goal.returns
returns c =
    let f = c.args.self in
    c.with_check.ensures ∙ rw c.from-3.ensures (block_header f.di f.lf f.sc _ _ (c.from.ensures ∙ byte_bit f.di) (c.from-2.ensures ∙ byte_bit f.lf) f.four_bits)
