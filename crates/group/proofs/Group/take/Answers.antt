-- `Group::take` makes the tests in order, and joins the data on. Assumes nothing.
use Prim.Native.Nat.{◌+◌, ◌<◌, ◌≤◌}
use mathlib.Core.Bool.{not, ◌||◌}
use mathlib.Core.Path.{◌≡◌, sym, ap, ◌∙◌, subst}
use native.Mathlib.Omega.{arith}
use borrow.Author.Tests.{eq-eqb, ne_eqb}
use lib.Dec.{eqb}
use lib.ListN.{length}
use Rattle.answers.specs.Numbers.{number_of}
use Rattle.channel.specs.declared.Fields.{Fields}
use Rattle.group.specs.Answers.{refused, group_after}
use Rattle.group.specs.State.{idle, joined_on}
use Rattle.group.specs.declared.Group.{Group}
use Rattle.group.proofs.Laws.{rule_room, within_bounds}
use Rattle.group.proofs.Joining.{short, outside, too_wide, other, once_more, begins, turned_away, joins, few}
use Rattle.group.proofs.Group.take.Goals as goal
use Rattle.group.proofs.Group.take.Goals.{then-not-keeps_rule-via-then-not-keeps_rule, then-not-keeps_rule-via-else-not-keeps_rule+then-not-message_fits, then-message-self-via-then-message-self, then-message-self-via-else-message-self+then-message, then-message-2, else-message-2+in_default}

pub returns-then-buffer-lt-MOST_BYTES : goal.returns-then-buffer-lt-MOST_BYTES
returns-then-buffer-lt-MOST_BYTES c = short _ _ _ _ c.if-buffer-lt-MOST_BYTES.true

pub returns-then-not-keeps_rule : goal.returns-then-not-keeps_rule
returns-then-not-keeps_rule c =
    let room = c.if-buffer-lt-MOST_BYTES.false in
    elim c.then-not-keeps_rule.branch [
      | then-not-keeps_rule-via-then-not-keeps_rule w ↦ outside _ _ _ _ room (sym c.keeps_rule.ensures ∙ w.if-not-keeps_rule.true)
      | then-not-keeps_rule-via-else-not-keeps_rule+then-not-message_fits w ↦
          too_wide _ _ _ _ room (sym c.keeps_rule.ensures ∙ w.if-not-keeps_rule.false) (sym w.message_fits.ensures ∙ w.if-not-message_fits.true)
    ]

-- the number and COM as one test
ours_is : (m : Fields) (g : Group) → m.number ≡ g.number → (not (eqb m.number g.number) || m.command) ≡ m.command
ours_is m g e = rw (eq-eqb _ _ e)

pub returns-then-message-self : goal.returns-then-message-self
returns-then-message-self c =
    let a = c.args in
    let rule = sym c.keeps_rule.ensures ∙ c.if-not-keeps_rule.false in
    let fits = sym c.message_fits.ensures ∙ c.if-not-message_fits.false in
    other _ _ _ _ c.if-buffer-lt-MOST_BYTES.false rule fits
    (elim c.then-message-self.branch [
      | then-message-self-via-then-message-self w ↦ rw (ne_eqb _ _ w.if-message-self.true)
      | then-message-self-via-else-message-self+then-message w ↦ ours_is a.message a.self.now w.if-message-self.false ∙ w.if-message.true
    ])

pub is_repeat-requires : goal.is_repeat-requires
is_repeat-requires c =
    let r = rule_room _ (sym c.keeps_rule.ensures ∙ c.if-not-keeps_rule.false) in
    (r.3, omega (arith, r, c.if-buffer-lt-MOST_BYTES.false))

pub returns-then-is_repeat : goal.returns-then-is_repeat
returns-then-is_repeat c =
    let rule = sym c.keeps_rule.ensures ∙ c.if-not-keeps_rule.false in
    let fits = sym c.message_fits.ensures ∙ c.if-not-message_fits.false in
    let ours = ours_is c.args.message c.args.self.now c.if-message-self.false ∙ c.if-message.false in
    once_more _ _ _ _ c.if-buffer-lt-MOST_BYTES.false rule fits ours (sym c.is_repeat.ensures ∙ c.if-is_repeat.true)

pub follows-requires : goal.follows-requires
follows-requires c = (rule_room _ (sym c.keeps_rule.ensures ∙ c.if-not-keeps_rule.false)).2

pub returns-in-Err : goal.returns-in-Err
returns-in-Err c =
    let a = c.args in
    let rule = sym c.keeps_rule.ensures ∙ c.if-not-keeps_rule.false in
    let fits = sym c.message_fits.ensures ∙ c.if-not-message_fits.false in
    let ours = ours_is a.message a.self.now c.if-message-self.false ∙ c.if-message.false in
    let new = sym c.is_repeat.ensures ∙ c.if-is_repeat.false in
    ap (λ (g : Group). group_after (refused (number_of c.in-Err.refusal)) g a.buffer.now) c.idle-in-Err.ensures
    ∙ turned_away _ _ _ _ c.if-buffer-lt-MOST_BYTES.false rule fits ours new c.if-message-2.false _ c.in-Err.ensures

pub join_on-requires : goal.join_on-requires
join_on-requires c =
    let a = c.args in
    let rule = sym c.keeps_rule.ensures ∙ c.if-not-keeps_rule.false in
    let small = (within_bounds a.message (length a.«data».now) (sym c.message_fits.ensures ∙ c.if-not-message_fits.false)).1 in
    let Room : Group → Type 0 = λ g. (g.messages < 15) × (g.held + length a.«data».now ≤ length a.buffer.now) in
    elim c.if-message-2.branch [
      | then-message-2 w ↦
          let one : Room (idle a.self.now.number) = (omega arith, omega (arith, c.if-buffer-lt-MOST_BYTES.false)) in
          subst Room (sym (w.self-is ∙ w.idle.ensures)) one
      | else-message-2+in_default w ↦
          let more : Room a.self.now = (few a.self.now a.message w.in_default.ensures, omega (arith, rule_room a.self.now rule, few a.self.now a.message w.in_default.ensures, c.if-buffer-lt-MOST_BYTES.false)) in
          subst Room (sym w.self-is) more
    ]

pub returns : goal.returns
returns c =
    let a = c.args in
    let rule = sym c.keeps_rule.ensures ∙ c.if-not-keeps_rule.false in
    let fits = sym c.message_fits.ensures ∙ c.if-not-message_fits.false in
    let ours = ours_is a.message a.self.now c.if-message-self.false ∙ c.if-message.false in
    let new = sym c.is_repeat.ensures ∙ c.if-is_repeat.false in
    c.join_on.ensures
    ∙ elim c.if-message-2.branch [
      | then-message-2 w ↦
          ap (λ (g : Group). joined_on g a.message a.«data».now a.buffer.now) (w.self-is ∙ w.idle.ensures)
          ∙ begins a.self.now a.message a.«data».now a.buffer.now c.if-buffer-lt-MOST_BYTES.false rule fits ours new w.if-message-2.true
      | else-message-2+in_default w ↦
          ap (λ (g : Group). joined_on g a.message a.«data».now a.buffer.now) w.self-is
          ∙ joins a.self.now a.message a.«data».now a.buffer.now c.if-buffer-lt-MOST_BYTES.false rule fits ours new w.if-message-2.false w.in_default.ensures
    ]
