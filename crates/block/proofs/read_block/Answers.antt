-- `block::read_block`: where a code word was found, its check bits, then its information bytes. Assumes nothing.
use native.Mathlib.Omega.{arith}
use mathlib.Core.Bool.{false≢true}
use mathlib.Core.Logic.{inl, inr}
use mathlib.Core.Path.{refl, sym, ap, subst, ◌∙◌}
use Prim.Native.Nat.{ℕ, ◌*◌, ◌≤◌}
use lib.ListN.{length, take}
use Rattle.words.specs.Words.{row_of_words}
use Rattle.words.specs.Near.{NoneNear}
use Rattle.words.proofs.Outcomes.{of_row}
use Rattle.block.specs.Corrector.{Sized}
use Rattle.block.proofs.read_block.Goals as goal

pub returns-in_default : goal.returns-in_default
returns-in_default c =
    let sized : Sized 34 22 c.args.received.now c.args.out.now = record { input = omega arith; output = omega arith } in
    inr (inl (record { sized = sized; none = subst NoneNear (c.of_bytes.ensures.block sized.input) c.in_default.ensures; answers = refl; counts = refl; places = refl; same = refl }))

pub returns-then-not-holds : goal.returns-then-not-holds
returns-then-not-holds c =
    let sized : Sized 34 22 c.args.received.now c.args.out.now = record { input = omega arith; output = omega arith } in
    inr (inr (inl (record {
      sized = sized;
      word = row_of_words c.in-Some.found.word;
      found = of_row (c.of_bytes.ensures.block sized.input) c.in-Some.ensures.1;
      wrong = λ r. false≢true (sym c.if-not-holds.true ∙ c.holds.ensures.1 r);
      answers = refl;
      same = refl;
    })))

pub returns : goal.returns
returns c =
    let sized : Sized 34 22 c.args.received.now c.args.out.now = record { input = omega arith; output = omega arith } in
    let word = c.in-Some.found.word in
    let f = c.fill_bytes in
    let room : length c.args.out.now ≤ 34 = omega (arith, sized.output) in
    inr (inr (inr (record {
      sized = sized;
      word = row_of_words word;
      found = of_row (c.of_bytes.ensures.block sized.input) c.in-Some.ensures.1;
      right = c.holds.ensures.0 c.if-not-holds.false;
      answers = refl;
      long = f.ensures.long ∙ sized.output;
      given = f.ensures.block room ∙ ap (λ (n : ℕ). take (8 * n) (row_of_words word)) sized.output;
    })))
