-- `Channel::take` makes the tests on the state and the block in order, and joins the block on. Assumes nothing.
use Prim.Native.Nat.{ℕ, ◌+◌, ◌%◌}
use mathlib.Core.List.{List}
use mathlib.Core.Path.{sym, ap, ◌∙◌}
use native.Mathlib.Omega.{arith}
use borrow.Author.Rules.{part_to_end}
use lib.ListN.{length-drop}
use lib.Seq.{paste}
use Rattle.std.proofs.lemmas.Result.{err_from_is_err_and}
use Rattle.channel.specs.Answers.{refused, channel_after}
use Rattle.channel.specs.State.{after_joining}
use Rattle.channel.proofs.Laws.{rule_bytes}
use Rattle.channel.proofs.Steps.{outside, no_block, whole_block, out_of_step, too_many, joins_on}
use Rattle.channel.proofs.Channel.take.Goals as goal

pub returns-then-not-keeps_rule : goal.returns-then-not-keeps_rule
returns-then-not-keeps_rule c = outside _ _ (sym c.keeps_rule.ensures ∙ c.if-not-keeps_rule.true)

pub returns-in_err-header : goal.returns-in_err-header
returns-in_err-header c =
    let p = err_from_is_err_and c.from_residual.result c.from_residual.ensures.1 in
    rw (p.1, p.2) (no_block _ _ (sym c.keeps_rule.ensures ∙ c.if-not-keeps_rule.false) _ c.in_err-header.ensures)

pub returns-then-not-expects : goal.returns-then-not-expects
returns-then-not-expects c =
    let h = c.in_ok-header.ensures in
    ap (channel_after (refused 8)) c.drop_gathered.ensures
    ∙ out_of_step _ _ (sym c.keeps_rule.ensures ∙ c.if-not-keeps_rule.false) _ _ h.0 h.1 h.2 (sym c.expects.ensures ∙ c.if-not-expects.true)

pub returns-then-self-ge-MOST_GATHERED : goal.returns-then-self-ge-MOST_GATHERED
returns-then-self-ge-MOST_GATHERED c =
    let h = c.in_ok-header.ensures in
    ap (channel_after (refused 9)) c.drop_gathered-then-self-ge-MOST_GATHERED.ensures
    ∙ too_many _ _ (sym c.keeps_rule.ensures ∙ c.if-not-keeps_rule.false) _ _ h.0 h.1 h.2 (sym c.expects.ensures ∙ c.if-not-expects.false) c.if-self-ge-MOST_GATHERED.true

pub join_on-requires : goal.join_on-requires
join_on-requires c =
    let h = c.in_ok-header.ensures in
    let rule = sym c.keeps_rule.ensures ∙ c.if-not-keeps_rule.false in
    (omega (arith, rule_bytes c.args.self.now rule), rw part_to_end (length-drop 2 c.args.information.now ∙ omega (arith, whole_block _ c.args.information.now rule _ _ h.0 h.1 h.2)))

pub returns : goal.returns
returns c =
    let h = c.in_ok-header.ensures in
    let a = c.args in
    c.join_on.ensures
    ∙ ap (λ (part : List ℕ). after_joining (paste a.self.now.bytes a.self.now.gathered part 20) (a.self.now.gathered + 20) c.in_ok-header.header.lf ((c.in_ok-header.header.sc + 1) % 16)) (part_to_end a.information.now 2)
    ∙ joins_on _ _ (sym c.keeps_rule.ensures ∙ c.if-not-keeps_rule.false) _ _ h.0 h.1 h.2 (sym c.expects.ensures ∙ c.if-not-expects.false) c.if-self-ge-MOST_GATHERED.false
