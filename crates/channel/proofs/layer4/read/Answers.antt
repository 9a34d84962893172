-- `channel::layer4::read` makes the message's tests one by one. Assumes nothing.
use mathlib.Core.Path.{sym, ◌∙◌}
use native.Mathlib.Omega.{arith}
use Rattle.channel.proofs.Messages.{room, caf_set, wrong_check, wrong_form, too_long, wrong_padding, a_message}
use Rattle.channel.proofs.layer4.read.Goals as goal

pub returns-then-opened : goal.returns-then-opened
returns-then-opened c =
    caf_set c.args.bytes.now c.header_at-opened.result c.header_at-opened.ensures c.if-opened.true

pub returns-then-not-opened : goal.returns-then-not-opened
returns-then-not-opened c =
    let o = c.header_at-opened.result in
    wrong_check c.args.bytes.now o c.header_at-opened.ensures c.if-opened.false c.if-not-opened.true

pub returns-then-not-is_formed : goal.returns-then-not-is_formed
returns-then-not-is_formed c =
    wrong_form c.args.bytes.now c.header_at-opened.result c.header_at-opened.ensures c.if-opened.false c.if-not-opened.false (sym c.is_formed.ensures ∙ c.if-not-is_formed.true)

pub overflow_add-end : goal.overflow_add-end
overflow_add-end c =
    omega (arith, room c.args.bytes.now c.header_at-opened.result c.header_at-opened.ensures)

pub returns-then-end-gt-MOST_GATHERED : goal.returns-then-end-gt-MOST_GATHERED
returns-then-end-gt-MOST_GATHERED c =
    too_long c.args.bytes.now c.header_at-opened.result c.header_at-opened.ensures c.if-opened.false c.if-not-opened.false (sym c.is_formed.ensures ∙ c.if-not-is_formed.false)
    c.if-end-gt-MOST_GATHERED.true

pub returns-then-not-padded : goal.returns-then-not-padded
returns-then-not-padded c =
    wrong_padding c.args.bytes.now c.header_at-opened.result c.header_at-opened.ensures c.if-opened.false c.if-not-opened.false (sym c.is_formed.ensures ∙ c.if-not-is_formed.false)
    c.if-end-gt-MOST_GATHERED.false (sym c.padded.ensures ∙ c.if-not-padded.true)

pub returns : goal.returns
returns c =
    a_message c.args.bytes.now c.header_at-opened.result c.header_at-opened.ensures c.if-opened.false c.if-not-opened.false (sym c.is_formed.ensures ∙ c.if-not-is_formed.false)
    c.if-end-gt-MOST_GATHERED.false (sym c.padded.ensures ∙ c.if-not-padded.false)
