use Rattle.std.proofs.Common.{◌≡◌, ◌∙◌, ap, sym, not, true}
use borrow.Author.Rules.{part_to_end}
use Rattle.text.specs.Fields.{same_as}
use Rattle.logs.specs.Reader.{is_plain, is_held}
use Rattle.logs.proofs.Plain.{plain_any}
use Rattle.logs.proofs.Runs.{zeros}
use Rattle.logs.proofs.Reader.is_held.Goals as goal

pub returns-then-not-contains : goal.returns-then-not-contains
unfolding is_held
returns-then-not-contains c =
    let parts = c.split_at.result in
    let plain : is_plain parts.0.now ≡ true = sym (plain_any parts.0.now) ∙ ap not (sym c.contains.ensures.value ∙ c.if-not-contains.true) in
    rw (sym c.split_at.ensures.front, sym c.split_at.ensures.back, plain) (c.same.ensures ∙ ap (same_as parts.1.now) (part_to_end zeros c.args.self.now.length))

pub returns-else-not-contains : goal.returns-else-not-contains
unfolding is_held
returns-else-not-contains c =
    let parts = c.split_at.result in
    let plain = sym (plain_any parts.0.now) ∙ ap not (sym c.contains.ensures.value ∙ c.if-not-contains.false) in
    rw (sym c.split_at.ensures.front, plain, c.if-not-contains.false)
