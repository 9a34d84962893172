-- `writer::block::put_header`: the last bytes of the number. Assumes nothing.
use mathlib.Core.Path.{◌≡◌, ap, ◌∙◌}
use native.Mathlib.Omega.{arith}
use Prim.Native.Nat.{◌-◌}
use lib.ListN.{length, drop, length-drop}
use lib.Seq.{take_all}
use Rattle.writer.proofs.Rows.{last_bytes}
use Rattle.writer.proofs.block.put_header.Goals as goal

pub returns : goal.returns
returns c =
    let n = length c.args.bytes.now in
    let whole = c.to_be_bytes-whole.result in
    let l : length whole ≡ 8 = ap length c.to_be_bytes-whole.ensures in
    c.copy_from_slice.ensures.after
    ∙ take_all (8 - (8 - n)) (drop (8 - n) whole) (omega (arith, length-drop (8 - n) whole))
    ∙ ap (drop (8 - n)) c.to_be_bytes-whole.ensures
    ∙ last_bytes n c.args.header c.requires
