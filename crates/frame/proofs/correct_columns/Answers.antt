-- `frame::correct_columns`: the rows of the frame turned round, which is turned back where one has changed. Assumes nothing.
use borrow.Author.Tests.{not-false}
use mathlib.Core.Path.{◌≡◌, ◌∙◌, sym}
use Rattle.std.specs.Cmp.Lexicographic.{same_text}
use Rattle.frame.proofs.TiledFrames.{turned_stage, unchanged_stage}
use Rattle.frame.proofs.correct_columns.Goals as goal

pub returns-then-ne : goal.returns-then-ne
returns-then-ne c = turned_stage c.turn_round.ensures c.turn_round-then-ne.ensures c.correct_rows-refused.ensures

pub returns-else-ne : goal.returns-else-ne
returns-else-ne c =
    let same : c.correct_rows-refused.new.frame ≡ c.turn_round.new.turned = same_text _ _ (sym (not-false _ (sym c.ne.ensures ∙ c.if-ne.false))) in
    unchanged_stage c.turn_round.ensures (sym same) c.correct_rows-refused.ensures
