-- `frame::correct_row`: what the corrector's promise says of a row. Assumes nothing.
use native.Mathlib.Omega.{arith}
use mathlib.Core.Path.{sym, subst}
use Rattle.gf2.specs.Poly.{bit}
use Rattle.words.specs.Bytes.{row_of}
use Rattle.frame.specs.Frames.{Becomes}
use Rattle.frame.proofs.Promise.{row_becomes}
use Rattle.frame.proofs.correct_row.Goals as goal

pub returns : goal.returns
returns c =
    subst (λ b. Becomes (row_of c.args.row.now) (row_of c.correct.new.out) (bit b)) (sym c.is_err.ensures.value)
    (row_becomes _ c.args.row.now _ (omega arith) c.copy_from_slice.ensures.after c.correct.result c.correct.ensures)
