-- `block::write_block`: the lengths; then the row of the information, of its check, and of the parity of both. Assumes nothing.
use Rattle.code.specs.Code.{generator}
use Rattle.block.specs.Corrector.{Sized}
use Rattle.block.proofs.Blocks.{check_room, parity_room, block_row_lem}
use Prim.Native.Nat.{◌*◌}
use lib.ListN.{length}
use lib.Seq.{take_all}
use native.Mathlib.Omega.{arith}
use mathlib.Core.Logic.{inr}
use mathlib.Core.Path.{◌≡◌, refl, ◌∙◌}
use borrow.Author.Rules.{rules}
use Rattle.block.proofs.write_block.Goals as goal

pub append-requires : goal.append-requires
append-requires c = check_room _ _ _ generator (omega arith) c.fill_row.ensures c.divisor.ensures refl

pub append-requires-2 : goal.append-requires-2
append-requires-2 c = parity_room _ _ _ _ (omega arith) c.fill_row.ensures c.divisor.ensures c.generator_row.ensures _ c.append.ensures

pub returns : goal.returns
returns c =
    let sized : Sized 22 34 c.args.information.now c.args.out.now = record { input = omega arith; output = omega arith } in
    let word = c.append-2.new.row in
    let long : length word ≡ 272 = search rules in
    inr (record {
      sized = sized;
      answers = refl;
      long = c.fill_bytes.auto.out ∙ sized.output;
      written = c.fill_bytes.ensures ∙ take_all (8 * length c.args.out.now) word (omega (arith, sized.output))
          ∙ block_row_lem _ _ _ _ sized.input c.fill_row.ensures c.divisor.ensures c.generator_row.ensures _ c.append.ensures _ c.append-2.ensures;
    })
