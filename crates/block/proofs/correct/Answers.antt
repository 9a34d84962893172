-- `block::correct`: the bytes of the code word, where one was found. Assumes nothing.
use native.Mathlib.Omega.{arith}
use mathlib.Core.Logic.{inl, inr}
use mathlib.Core.Path.{refl, subst, ◌∙◌}
use Prim.Native.Nat.{◌*◌, ◌≤◌}
use lib.ListN.{length}
use lib.Seq.{take_all}
use Rattle.words.specs.Words.{row_of_words}
use Rattle.words.specs.Near.{NoneNear}
use Rattle.words.proofs.Outcomes.{of_row}
use Rattle.words.proofs.Words.{length_row}
use Rattle.block.specs.Corrector.{Sized}
use Rattle.block.proofs.correct.Goals as goal

pub returns-in_default : goal.returns-in_default
returns-in_default c =
    let sized : Sized 34 34 c.args.received.now c.args.out.now = record { input = omega arith; output = omega arith } in
    inr (inl (record { sized = sized; none = subst NoneNear (c.of_bytes.ensures.block sized.input) c.in_default.ensures; answers = refl; counts = refl; places = refl; same = refl }))

pub returns : goal.returns
returns c =
    let sized : Sized 34 34 c.args.received.now c.args.out.now = record { input = omega arith; output = omega arith } in
    let word = c.in-Some.found.word in
    let met = c.in-Some.ensures in
    let f = c.fill_bytes in
    let room : length c.args.out.now ≤ 34 = omega (arith, sized.output) in
    inr (inr (record {
      sized = sized;
      word = row_of_words word;
      found = of_row (c.of_bytes.ensures.block sized.input) met.1;
      answers = refl;
      long = f.ensures.long ∙ sized.output;
      written = f.ensures.block room ∙ take_all (8 * length c.args.out.now) (row_of_words word) (omega (arith, sized.output, length_row word met.0.five));
    }))
