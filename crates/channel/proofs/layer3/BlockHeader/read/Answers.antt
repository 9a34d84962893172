-- `channel::layer3::BlockHeader::read` takes a header of two bytes apart. Assumes nothing.
use mathlib.Core.Path.{◌≡◌, sym, ap, ◌∙◌}
use mathlib.Core.Bool.{Bool, true}
use mathlib.Core.List.{List}
use Prim.Native.Nat.{ℕ, ◌*◌, ◌<◌, ◌/◌, ◌%◌, ◌^◌}
use native.Mathlib.Nat.{div-one}
use native.Mathlib.Omega.{arith}
use borrow.Author.Tests.{eq-eqb, ne_eqb}
use lib.Dec.{eqb}
use lib.ListN.{length, take}
use lib.Seq.{length-take-le}
use Rattle.answers.specs.Numbers.{accepted, refused}
use Rattle.answers.specs.Rules.{unless}
use Rattle.header.specs.Header.{check, total, holds}
use Rattle.channel.specs.Layer3.{layer3, header_of, si_lch_of}
use Rattle.channel.specs.Headers.{header_answer}
use Rattle.channel.proofs.Laws.{check_at}
use Rattle.channel.proofs.layer3.BlockHeader.read.Goals as goal

module _ (information : List ℕ) (h k : ℕ) (long : length information ≡ 22) (is : h ≡ header_of information) (small : h < 2 ^ (8 * length (take 2 information)))
    (ours : h / 64 / 64 % 16 ≡ 10) (at : k ≡ check 64 (h / 64)) where
  checked : eqb k (h % 64) ≡ holds (total layer3) (header_of information)
  checked =
      let two : length (take 2 information) ≡ 2 = length-take-le 2 information (omega arith) in
      let l : h < 65536 = rw two at small in
      rw (sym is) (ap (λ (n : ℕ). eqb n (h % 64)) (at ∙ check_at 10 (h / 64) (omega arith) (omega arith)))

  passed : {b : Bool} → eqb k (h % 64) ≡ b → unless b (refused 4) accepted ≡ header_answer information
  passed same =
      let e : eqb (si_lch_of (header_of information)) 10 ≡ true = rw (sym is) (eq-eqb _ _ ours) in
      rw (eq-eqb _ _ long, e, sym checked, same)

pub returns-then-check-header : goal.returns-then-check-header
returns-then-check-header c =
    passed c.args.information.now c.header_from-header.result c.check.result c.if-information-ne-INFORMATION_BYTES.false c.header_from-header.ensures.0 c.header_from-header.ensures.1 c.if-fields-ne10.false c.check.ensures
    (ne_eqb _ _ c.if-check-header.true)

pub returns : goal.returns
returns c = (
  passed c.args.information.now c.header_from-header.result c.check.result c.if-information-ne-INFORMATION_BYTES.false c.header_from-header.ensures.0 c.header_from-header.ensures.1 c.if-fields-ne10.false c.check.ensures
      (eq-eqb _ _ c.if-check-header.false),
  rw c.header_from-header.ensures.0,
  rw (c.header_from-header.ensures.0, div-one),
)
