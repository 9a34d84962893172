-- `writer::write_group`: the two refusals, and the blocks. Assumes nothing.
use Prim.Native.Nat.{ℕ, ◌+◌, ◌-◌, ◌*◌, ◌/◌, ◌≤◌}
use mathlib.Core.Bool.{Bool, true}
use mathlib.Core.List.{List}
use mathlib.Core.Path.{◌≡◌, sym, ap, ◌∙◌}
use native.Mathlib.Numerals.{add-one}
use native.Mathlib.Omega.{arith}
use borrow.Author.Tests.{le-leb, lt-leb}
use lib.ListN.{length, take, drop}
use Rattle.answers.specs.declared.Refusal.TheVariants.{OutsideRule, TooShort}
use Rattle.channel.specs.Layer4.{blocks_filled}
use Rattle.channel.specs.declared.Fields.{Fields}
use Rattle.writer.specs.Message.{header_for, in_widths}
use Rattle.writer.specs.Group.{series_in_widths, group_fields, messages_for, group_blocks, write_group_of}
use Rattle.writer.specs.declared.Series.{Series}
use Rattle.writer.proofs.Writing.{none_written, all_written}
use Rattle.writer.proofs.Laws.{within_widths}
use Rattle.writer.proofs.GroupWriting.{last_part, series_count, full_messages}
use Rattle.writer.proofs.write_group.Goals as goal
use Rattle.writer.proofs.write_group.Goals.{After-blocks-2}

-- the tests of widths are those of the series
tested : (x : Series) (m : Fields) (n : ℕ) {b : Bool} → m ≡ group_fields x.number x.ri x.ci true true → in_widths m.ri m.ci m.number x.sc 3825 n ≡ b → series_in_widths x n ≡ b
tested x m n e h = ap (λ (f : Fields). in_widths f.ri f.ci f.number x.sc 3825 n) (sym e) ∙ h

-- the blocks are counted
counted : (x : Series) (s : List ℕ) (m : Fields) (k n : ℕ) → length s ≤ 3825 → m ≡ group_fields x.number x.ri x.ci true true → k ≡ messages_for (length s)
    → n ≡ blocks_filled (header_for m (length (take (length s - 255 * (k - 1)) (drop (255 * (k - 1)) s))))
    → 13 * (k - 1) + n ≡ length (group_blocks x s)
unfolding group_blocks
counted x s m k n l f e b =
    let q = (length s - 1) / 255 in
    let r = full_messages (length s) l in
    let full : k - 1 ≡ q = omega arith in
    let d = last_part s (k - 1) in
    let c : n ≡ blocks_filled (header_for (group_fields x.number x.ri x.ci true true) (length s - 255 * q)) =
    b ∙ (λ i. blocks_filled (header_for (f i) ((d ∙ ap (λ (j : ℕ). length s - 255 * j) full) i))) in
    rw (full, c, add-one q) (sym (series_count q true x.di x.number x.ri x.sc x.ci s r.1 r.2))

pub returns-then-not-within_widths : goal.returns-then-not-within_widths
unfolding write_group_of
returns-then-not-within_widths c =
    let a = c.args in
    none_written _ OutsideRule a.output.now (rw (tested a.series _ (length a.«data».now) c.fields-fields.ensures (sym c.within_widths.ensures ∙ c.if-not-within_widths.true)))

pub invariant_of-last : goal.invariant_of-last
invariant_of-last c =
    let w = within_widths (sym c.within_widths.ensures ∙ c.if-not-within_widths.false) in
    let s = c.args.«data».now in
    record { within = (w.0, w.1, w.2, omega (arith, last_part s (c.messages_for-full.result - 1), c.messages_for-full.ensures, full_messages (length s) w.4)) }

pub returns-then-output-blocks : goal.returns-then-output-blocks
unfolding write_group_of
returns-then-output-blocks c =
    let a = c.args in
    let fits = sym c.within_widths.ensures ∙ c.if-not-within_widths.false in
    let n = counted a.series a.«data».now _ _ _ (within_widths fits).4 c.fields-fields.ensures c.messages_for-full.ensures c.blocks-2.ensures.0 in
    none_written _ TooShort a.output.now (rw (tested a.series _ (length a.«data».now) c.fields-fields.ensures fits, lt-leb _ _ (rw n at c.if-output-blocks.true)))

pub put-requires : goal.put-requires
put-requires c =
    let a = c.args in
    let fits = sym c.within_widths.ensures ∙ c.if-not-within_widths.false in
    let n = counted a.series a.«data».now _ _ _ (within_widths fits).4 c.fields-fields.ensures c.messages_for-full.ensures c.blocks-2.ensures.0 in
    (tested a.series _ (length a.«data».now) c.fields-fields.ensures fits, rw n at c.if-output-blocks.false)

pub returns : goal.returns
unfolding write_group_of
returns c =
    let a = c.args in
    let fits = sym c.within_widths.ensures ∙ c.if-not-within_widths.false in
    let n = counted a.series a.«data».now _ _ _ (within_widths fits).4 c.fields-fields.ensures c.messages_for-full.ensures c.blocks-2.ensures.0 in
    all_written _ (group_blocks a.series a.«data».now) (13 * (c.messages_for-full.result - 1) + c.blocks-2.result) a.output.now _
    (rw (tested a.series _ (length a.«data».now) c.fields-fields.ensures fits, le-leb _ _ (rw n at c.if-output-blocks.false))) (sym n) (rw n c.put.ensures)
