-- `channel::layer4::header_at` reads EXT, and then the header of 4 or 5 bytes. Assumes nothing.
use Prim.Native.Nat.{ℕ}
use mathlib.Core.Path.{ap, ◌∙◌}
use lib.ListN.{take}
use Rattle.header.specs.Header.{header_from}
use Rattle.channel.specs.Layer4.{opened, opened_at, ext_of}
use Rattle.channel.proofs.layer4.header_at.Goals as goal

pub returns : goal.returns
unfolding opened_at
returns c =
    let bytes = c.args.bytes.now in
    c.parted.ensures ∙ ap (opened (ext_of bytes)) (c.header_from.ensures.0 ∙ ap (λ (n : ℕ). header_from (take n bytes)) c.header_size.ensures)
