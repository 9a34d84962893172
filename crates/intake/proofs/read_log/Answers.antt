-- `intake::read_log`: what the end tells is what reading the bytes at once tells. Assumes nothing.
use Rattle.std.proofs.Common.{◌≡◌, sym, ap, subst, ◌∙◌}
use mathlib.Core.List.{flatten}
use Rattle.logs.specs.declared.Fed.{Fed}
use Rattle.logs.specs.declared.Reader.{Reader}
use Rattle.logs.specs.Reader.{told_fed, whole_of, end_of}
use Rattle.logs.specs.Pieces.{Reached}
use Rattle.logs.proofs.Reached.{reached_fresh, reached_end}
use Rattle.intake.specs.Intake.{Came}
use Rattle.intake.proofs.read_log.Goals as goal

-- the end tells of all that came
came : (s : Reader) (end : Fed) → Reached s → told_fed end ≡ end_of s → Came (whole_of (told_fed end))
came s end r e =
    record {
      bytes = flatten r.pieces;
      small = r.small;
      read = sym (reached_end s r) ∙ ap whole_of (sym e);
    }

pub loop-init : goal.loop-init
loop-init g c = subst Reached (sym c.start-reader.ensures) reached_fresh

pub returns : goal.returns
returns g c = came _ c.end-end.result c.loop.invariant c.end-end.ensures
