use Rattle.std.proofs.Common.{ℕ, take, sym, ap, ◌∙◌, arith}
use Rattle.std.proofs.lemmas.List.{length-take}
use Rattle.text.specs.Fields.{same_as}
use Rattle.text.proofs.Laws.{other_length}
use Rattle.logs.specs.Decimal.{decimal}
use Rattle.logs.proofs.Lines.{channel_tab, first_number, channel_absent, channel_here, channel_next, channel_none}
use Rattle.logs.proofs.line.channel_of.Goals as goal

pub returns-in_err-name : goal.returns-in_err-name
returns-in_err-name c =
    let l = c.args.line.now in
    c.from_residual.ensures
    ∙ sym (channel_absent 204 l (other_length (take 8 l) channel_tab (λ e. omega (arith, e, length-take 8 l, c.in_err-name.ensures.cases))))

pub returns-then-not-same : goal.returns-then-not-same
returns-then-not-same c =
    let n = c.in_ok-name in
    let other = sym c.same.ensures ∙ c.if-not-same.true in
    sym (channel_absent 204 c.args.line.now (ap (λ name. same_as name channel_tab) (sym n.ensures.cases.1) ∙ other))

pub returns-then-spells : goal.returns-then-spells
returns-then-spells c =
    let l = c.args.line.now in
    let n = c.in_ok-name in
    let p = c.loop-channel in
    let f = n.ensures.cases in
    let is = first_number l n.name.now n.number.now p.channel f.0 f.1 f.2 (sym c.same.ensures ∙ c.if-not-same.false) ∙ ap (λ (k : ℕ). same_as n.number.now (decimal k)) (sym c.from.ensures) ∙ sym c.spells.ensures ∙ c.if-spells.true in
    sym (p.invariant ∙ channel_here p.channel l (omega arith) is)

pub loop-channel-preserved : goal.loop-channel-preserved
loop-channel-preserved c =
    let l = c.args.line.now in
    let n = c.in_ok-name in
    let p = c.loop-channel in
    let f = n.ensures.cases in
    let is = first_number l n.name.now n.number.now p.channel f.0 f.1 f.2 (sym c.same.ensures ∙ c.if-not-same.false) ∙ ap (λ (k : ℕ). same_as n.number.now (decimal k)) (sym c.from.ensures) ∙ sym c.spells.ensures ∙ c.if-spells.false in
    p.invariant ∙ channel_next p.channel l (omega arith) is

pub returns : goal.returns
returns c = let p = c.loop-channel in sym (p.invariant ∙ channel_none p.channel c.args.line.now (omega arith))
