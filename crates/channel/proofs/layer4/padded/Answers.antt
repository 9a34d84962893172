-- `channel::layer4::padded`: the number of blocks, and the bytes from the end on are zero. Assumes nothing.
use mathlib.Core.Path.{sym, ◌∙◌}
use borrow.Author.Tests.{eq-eqb}
use borrow.Author.Rules.{part_to_end}
use lib.Dec.{eqb}
use lib.ListN.{drop}
use Rattle.std.proofs.Common.{rules, tests}
use Rattle.std.proofs.lemmas.Iterator.{YieldsList-from_slice}
use Rattle.std.proofs.lemmas.Iterator.Search.{all_from_yields_List}
use Rattle.channel.proofs.layer4.padded.Goals as goal

pub returns-then-blocks_for-bytes : goal.returns-then-blocks_for-bytes
returns-then-blocks_for-bytes c =
    let bytes = c.args.bytes.now in
    all_from_yields_List (λ b. eqb b 0) _ _ c.all.result c.all.ensures.ran (YieldsList-from_slice (drop c.args.end bytes) (c.iter.ensures.rest ∙ part_to_end bytes c.args.end)) (λ x b q k. search (rules, tests))
    ∙ sym (rw (sym c.blocks_for.ensures, eq-eqb _ _ c.if-blocks_for-bytes.true))
