-- `Message::put`: the blocks are cut from header, data and zeros. Assumes nothing.
use Prim.Native.Nat.{ℕ, ◌*◌, ◌/◌}
use mathlib.Core.List.{◌++◌}
use mathlib.Core.Path.{◌≡◌, refl, sym, ap, ◌∙◌}
use native.Mathlib.Omega.{arith}
use lib.ListN.{length, take, drop}
use Rattle.channel.specs.Layer4.{blocks_filled}
use Rattle.channel.proofs.Laws.{size_room}
use Rattle.writer.specs.Message.{header_for, message_bytes, cut, message_blocks, flat}
use Rattle.writer.proofs.Writing.{message_taken, message_length, message_count}
use Rattle.writer.proofs.message.Message.put.Goals as goal

pub returns : goal.returns
unfolding message_blocks
returns c =
    let a = c.args in
    let m = a.self.now in
    let s = m.«data».now in
    let h = header_for m.fields (length s) in
    let n = c.blocks-blocks.result in
    let count : n ≡ blocks_filled h = c.blocks-blocks.ensures.0 in
    let bytes : take (20 * n) c.lay.new.bytes ≡ message_bytes h s =
    ap (take (20 * n)) c.lay.ensures ∙ message_taken h s refl (20 * n) (omega (arith, m.within.3, size_room h.ext)) (ap (λ (k : ℕ). 20 * k) count) in
    let cuts : length (take (20 * n) c.lay.new.bytes) / 20 ≡ blocks_filled h = omega (arith, ap length bytes, message_length h s refl) in (
      count ∙ sym (message_count m.fields a.di a.sc s),
      c.put_blocks.ensures ∙ (λ i. flat (cut (cuts i) a.di a.sc (bytes i)) ++ drop (22 * (cuts ∙ sym count) i) a.output.now),
    )
