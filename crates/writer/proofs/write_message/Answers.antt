-- `writer::write_message`: the two refusals, and the blocks. Assumes nothing.
use Prim.Native.Nat.{◌*◌}
use mathlib.Core.Bool.{false}
use mathlib.Core.Path.{◌≡◌, sym, ◌∙◌}
use native.Mathlib.Omega.{arith}
use borrow.Author.Tests.{lt-leb}
use lib.Dec.{leb}
use lib.ListN.{length}
use Rattle.answers.specs.declared.Refusal.TheVariants.{OutsideRule, TooShort}
use Rattle.channel.specs.Layer4.{blocks_filled}
use Rattle.writer.specs.Message.{header_for, message_blocks, write_message_of}
use Rattle.writer.proofs.Laws.{within_widths}
use Rattle.writer.proofs.Writing.{message_written, none_written, all_written}
use Rattle.writer.proofs.write_message.Goals as goal

pub returns-then-not-within_widths : goal.returns-then-not-within_widths
unfolding write_message_of
returns-then-not-within_widths c = none_written _ OutsideRule c.args.output.now (rw (sym c.within_widths.ensures ∙ c.if-not-within_widths.true))

pub invariant_of-message : goal.invariant_of-message
invariant_of-message c = let w = within_widths (sym c.within_widths.ensures ∙ c.if-not-within_widths.false) in record { within = (w.0, w.1, w.2, w.4) }

pub returns-then-output-blocks : goal.returns-then-output-blocks
unfolding write_message_of
returns-then-output-blocks c =
    let a = c.args in
    let n = 22 * blocks_filled (header_for a.fields (length a.«data».now)) in
    let short : leb n (length a.output.now) ≡ false = lt-leb n (length a.output.now) (omega (arith, c.blocks-2.ensures.0, c.if-output-blocks.true)) in
    none_written _ TooShort a.output.now (rw (sym c.within_widths.ensures ∙ c.if-not-within_widths.false, short))

pub put-requires : goal.put-requires
put-requires c =
    let w = within_widths (sym c.within_widths.ensures ∙ c.if-not-within_widths.false) in
    (w.3, rw c.blocks-2.ensures.0 at c.if-output-blocks.false)

pub returns : goal.returns
returns c =
    let a = c.args in
    let fits = sym c.within_widths.ensures ∙ c.if-not-within_widths.false in
    all_written _ (message_blocks a.fields a.di a.sc a.«data».now) c.put.result a.output.now _
    (message_written a.fields a.di a.sc a.«data».now _ fits (rw c.blocks-2.ensures.0 at c.if-output-blocks.false)) (sym c.put.ensures.0) c.put.ensures.1
