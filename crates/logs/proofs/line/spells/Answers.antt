use Rattle.std.proofs.Common.{◌∙◌, ap, sym, arith}
use Rattle.std.proofs.lemmas.List.{nil_from_length}
use Rattle.std.proofs.lemmas.Bool.{eq-eqb, ne_eqb}
use mathlib.Core.Bool.{and-true, and-false}
use Rattle.text.specs.Fields.{same_as}
use Rattle.logs.proofs.Lines.{digit_last, digits_out}
use Rattle.logs.proofs.Decimal.{decimal_few}
use Rattle.logs.proofs.line.spells.Goals as goal

pub returns-in_default : goal.returns-in_default
returns-in_default c =
    let p = c.loop-number in
    let none = nil_from_length p.text.now c.in_default.ensures.cases in
    let out = digits_out p.number c.loop-number-test.true p.invariant.0 in
    let same = p.invariant.1 in
    cc

pub returns-then-last-number : goal.returns-then-last-number
returns-then-last-number c =
    let p = c.loop-number in
    let s = c.in-Some in
    sym (p.invariant.1 ∙ rw (s.ensures.cases.0, digit_last s.front.now s.last.now p.number c.loop-number-test.true p.invariant.0, ne_eqb _ _ c.if-last-number.true) (and-false _))

pub loop-number-preserved : goal.loop-number-preserved
loop-number-preserved c =
    let p = c.loop-number in
    let s = c.in-Some in
    (omega arith, p.invariant.1 ∙ rw (s.ensures.cases.0, digit_last s.front.now s.last.now p.number c.loop-number-test.true p.invariant.0, eq-eqb _ _ c.if-last-number.false) (and-true _))

pub returns : goal.returns
returns c =
    let p = c.loop-number in
    c.eq.ensures ∙ ap (same_as p.text.now) (c.as_slice.ensures ∙ sym (decimal_few p.number (omega arith))) ∙ sym p.invariant.1
