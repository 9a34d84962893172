-- What the private function `follows` of src/state.rt owes: a part of what `join_of` says. No public promise cites this file. Assumes nothing.
use Rattle.std.specs.Prelude.{◌+◌, ◌%◌, not, eqb, ltb}
use Rattle.answers.specs.Numbers as numbers
use Rattle.answers.specs.Rules.{unless}
use Rattle.channel.specs.declared.Fields.{Fields}
use Rattle.group.specs.declared.Group.{Group}
use Rattle.group.specs.State.{is_idle}

-- whether a message that is no First goes on with what is gathered: not idle (8), CI one more, modulo 4 (8), not fifteen messages already (9)
abbrev pub follows_of : Group → Fields → numbers.Paper
follows_of g m =
    unless (not (is_idle g.phase)) (numbers.refused 8)
    (unless (eqb m.ci ((g.ci + 1) % 4)) (numbers.refused 8)
    (unless (ltb g.messages 15) (numbers.refused 9) numbers.accepted))
