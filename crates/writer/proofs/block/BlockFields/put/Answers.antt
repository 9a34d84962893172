-- `BlockFields::put`: the header goes in first, then the twenty bytes. Assumes nothing.
use mathlib.Core.Path.{ap, ◌∙◌}
use mathlib.Core.List.{◌++◌}
use Prim.Native.Nat.{ℕ}
use lib.Seq.{paste}
use Rattle.header.specs.Header.{bytes_of}
use Rattle.writer.specs.Message.{block_of}
use Rattle.writer.proofs.Writing.{block_in}
use Rattle.writer.proofs.block.BlockFields.put.Goals as goal

pub returns : goal.returns
unfolding block_of
returns c =
    let a = c.args in
    block_in a.output.now a.twenty.now c.put_header.new.bytes _ a.at _ c.requires.0 c.requires.1 c.put_header.ensures c.copy_from_slice.ensures.after
    ∙ ap (λ (h : ℕ). paste a.output.now a.at (bytes_of 2 h ++ a.twenty.now) 22) c.header.ensures
