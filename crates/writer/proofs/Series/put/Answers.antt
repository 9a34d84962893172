use Prim.Native.Nat.{ℕ, ◌+◌, ◌-◌, ◌*◌, ◌%◌, ◌≤◌, ◌<◌, min}
use mathlib.Core.Bool.{Bool, false}
use mathlib.Core.List.{List, ◌++◌, append-nil}
use mathlib.Core.Path.{◌≡◌, refl, sym, ap, ap₂, ◌∙◌}
use native.Mathlib.Omega.{arith}
use borrow.Rule.Slice.PartMut.{put_mid}
use borrow.Author.Tests.{ne_eqb}
use native.Mathlib.Nat.{sub-zero}
use lib.Dec.{eqb}
use lib.ListN.{length, take, drop, take-append-drop}
use lib.Seq.{length-take-le}
use Rattle.channel.specs.declared.Fields.{Fields}
use Rattle.writer.specs.Group.{group_fields, messages_of, blocks_of, messages_for, series_blocks, group_blocks}
use Rattle.writer.specs.Message.{flat, message_blocks}
use Rattle.writer.specs.declared.Series.{Series}
use Rattle.writer.proofs.Laws.{within_widths, last_of}
use Rattle.writer.proofs.Writing.{message_count}
use Rattle.writer.proofs.GroupWriting.{part_of, behind_of, series_is, group_length, has_room, turn}
use Rattle.writer.proofs.Series.put.Goals as goal
use Rattle.writer.proofs.Series.put.Goals.{After-put-blocks}

-- the blocks of the message of a turn
blocks_now : (x : Series) (rest part : List ℕ) (ci sc i n k : ℕ) (m : Fields) → i < n → m ≡ group_fields x.number x.ri ci (eqb i 0) (eqb (i + 1) n)
    → part ≡ take k rest → k ≡ min (length rest) 255
    → message_blocks m x.di sc part ≡ message_blocks (group_fields x.number x.ri ci (eqb i 0) (eqb (n - i - 1) 0)) x.di sc (take 255 rest)
blocks_now x rest part ci sc i n k m h f p e =
    let fields = f ∙ ap (λ (last : Bool). group_fields x.number x.ri ci (eqb i 0) last) (last_of i n h) in
    let bytes = p ∙ ap (λ (j : ℕ). take j rest) e ∙ part_of rest in
    λ t. message_blocks (fields t) x.di sc (bytes t)

whole_room : (x : Series) (s : List ℕ) (k room : ℕ) → k ≡ messages_for (length s) → 22 * length (group_blocks x s) ≤ room → length (flat (series_blocks x k s)) ≤ room
whole_room x s k room e h = rw (series_is x s k e, group_length x s) h

turned : (c : After-put-blocks) → let l = c.loop-i in
    let a = c.args in
    let x = a.self in
    let k = c.messages_for-messages.result in
    let n = c.put-blocks.result in
    let back = put_mid l.at (length l.output - l.at) l.output c.put-blocks.new.output in
    (n ≤ 13) × (l.at + 22 * n ≤ length l.output) × (length back ≡ length l.output)
    × (flat (series_blocks x k a.«data».now) ≡ take (l.at + 22 * n) back
    ++ flat (blocks_of x.di ((l.sc + n) % 16) (messages_of (k - l.i - 1) false x.number x.ri ((l.ci + 1) % 4) (drop 255 l.rest.now))))
    × (drop (l.at + 22 * n) back ≡ drop (l.at + 22 * n) a.output.now)
turned c =
    let l = c.loop-i in
    let a = c.args in
    let x = a.self in
    let k = c.messages_for-messages.result in
    let now = blocks_now x l.rest.now _ l.ci l.sc l.i k c.min.result c.fields.result c.loop-i-test.true c.fields.ensures c.split_at.ensures.front c.min.ensures in
    turn x l.rest.now l.output a.output.now (flat (series_blocks x k a.«data».now)) (eqb l.i 0) l.sc l.ci l.at (k - l.i) l.invariant.0 (whole_room x a.«data».now k _ c.messages_for-messages.ensures (omega arith)) l.invariant.4 (omega arith)
    l.invariant.3 c.put-blocks.result c.put-blocks.new.output (c.put-blocks.ensures.0 ∙ ap length now) (c.put-blocks.ensures.1 ∙ ap (λ (b : List (List ℕ)). flat b ++ drop (22 * c.put-blocks.result) (take (length l.output - l.at) (drop l.at l.output))) now)

pub loop-i-init : goal.loop-i-init
loop-i-init c = let w = within_widths c.requires.0 in (omega arith, omega arith, omega arith, rw sub-zero refl, refl)

pub invariant_of-message : goal.invariant_of-message
invariant_of-message c =
    let w = within_widths c.requires.0 in
    record { within = rw c.fields.ensures (w.0, omega arith, w.2, omega (arith, c.split_at.ensures.front_len, c.min.ensures)) }

pub put-blocks-requires : goal.put-blocks-requires
put-blocks-requires c =
    let l = c.loop-i in
    let a = c.args in
    let x = a.self in
    let k = c.messages_for-messages.result in
    let now = blocks_now x l.rest.now _ l.ci l.sc l.i k c.min.result c.fields.result c.loop-i-test.true c.fields.ensures c.split_at.ensures.front c.min.ensures in
    let r = has_room x l.rest.now l.output a.output.now (flat (series_blocks x k a.«data».now)) (eqb l.i 0) l.sc l.ci l.at (k - l.i) l.invariant.0 (whole_room x a.«data».now k _ c.messages_for-messages.ensures (omega arith)) l.invariant.4 (omega arith) l.invariant.3 in
    (omega arith, omega (arith, r, ap length now, message_count c.fields.result x.di l.sc c.split_at.result.0.now))

pub overflow_add-sc : goal.overflow_add-sc
overflow_add-sc c = let t = turned (goal.at.overflow_add-sc c).After-put-blocks in omega (arith, c.from.ensures)

pub overflow_mul-at : goal.overflow_mul-at
overflow_mul-at c = let t = turned (goal.at.overflow_mul-at c).After-put-blocks in omega arith

pub overflow_add-at : goal.overflow_add-at
overflow_add-at c = let t = turned (goal.at.overflow_add-at c).After-put-blocks in omega arith

pub loop-i-preserved : goal.loop-i-preserved
loop-i-preserved c =
    let l = c.loop-i in
    let t = turned (goal.at.loop-i-preserved c).After-put-blocks in
    let k = c.messages_for-messages.result in
    let left : k - (l.i + 1) ≡ k - l.i - 1 = omega arith in
    let later : eqb (l.i + 1) 0 ≡ false = rw (ne_eqb (l.i + 1) 0 (λ e. omega (arith, e))) in
    let behind = c.split_at.ensures.back ∙ ap (λ (n : ℕ). drop n l.rest.now) c.min.ensures ∙ behind_of l.rest.now in
    rw (c.from.ensures, left, later, behind) (omega arith, omega arith, omega arith, t.3, t.4)

pub returns : goal.returns
returns c =
    let l = c.loop-i in
    let a = c.args in
    let B = group_blocks a.self a.«data».now in
    let none : c.messages_for-messages.result - l.i ≡ 0 = omega arith in
    let is : flat B ≡ take l.at l.output = ap flat (sym (series_is a.self a.«data».now _ c.messages_for-messages.ensures)) ∙ (rw none at l.invariant.3) ∙ append-nil (take l.at l.output) in
    let n : l.at ≡ 22 * length B = sym (length-take-le l.at l.output l.invariant.0) ∙ sym (ap length is) ∙ group_length a.self a.«data».now in
    sym (take-append-drop l.at l.output) ∙ ap₂ (λ (x y : List ℕ). x ++ y) (sym is) (l.invariant.4 ∙ ap (λ (k : ℕ). drop k a.output.now) n)
