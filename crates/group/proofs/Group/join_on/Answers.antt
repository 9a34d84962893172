-- `Group::join_on`: the copy to the counted place, and the state by Last. Assumes nothing.
use Rattle.std.proofs.lemmas.Slice.{put_mid-paste}
use borrow.Rule.Slice.PartMut.{put_mid}
use native.Mathlib.Omega.{arith}
use mathlib.Core.Path.{◌≡◌, refl}
use mathlib.Core.List.{List}
use lib.Seq.{paste}
use Rattle.group.specs.declared.Phase.TheVariants.{Gathering}
use Rattle.group.specs.State.{group_with, joined_on}
use Rattle.group.specs.Answers.{taken, whole, group_after}
use Prim.Native.Nat.{ℕ, ◌+◌, ◌-◌}
use lib.ListN.{length}
use Rattle.group.proofs.Group.join_on.Goals as goal

-- the buffer with the data at its place
laid : (buffer s filled : List ℕ) (at : ℕ) → filled ≡ s → put_mid at (at + length s - at) buffer filled ≡ paste buffer at s (length s)
laid buffer s filled at e = put_mid-paste at (at + length s - at) buffer filled s (length s) e (omega arith) refl

pub returns-then-message : goal.returns-then-message
unfolding joined_on
returns-then-message c =
    let a = c.args in
    rw c.if-message.true (λ i. group_after (whole (a.self.now.held + length a.«data».now)) (c.idle.ensures i) (laid a.buffer.now a.«data».now _ a.self.now.held c.copy_from_slice.ensures.after i))

pub returns : goal.returns
unfolding joined_on
returns c =
    let a = c.args in
    let g = a.self.now in
    rw c.if-message.false (λ i. group_after taken (group_with g.number Gathering (g.held + length a.«data».now) (g.messages + 1) a.message.ci (length a.«data».now)) (laid a.buffer.now a.«data».now _ g.held c.copy_from_slice.ensures.after i))
