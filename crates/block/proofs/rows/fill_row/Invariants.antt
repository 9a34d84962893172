-- `block::rows::fill_row`: the places below p hold the bits of the bytes, the rest is as it was. Assumes nothing.
use Rattle.words.specs.Bytes.{row_of}
use lib.ListN.{take, drop}
use mathlib.Core.List.{◌++◌}
use mathlib.Core.Path.{◌≡◌}
use Rattle.block.proofs.rows.fill_row.Given as goal

abbrev pub invariant-loop-p : goal.invariant-loop-p
invariant-loop-p l = l.row ≡ take l.p (row_of l.bytes) ++ drop l.p l.initial.row
