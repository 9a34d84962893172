use Rattle.std.proofs.Common.{rules}
use Rattle.intake.proofs.answer.Goals as goal

pub returns-clause-told : goal.returns-clause-told
returns-clause-told g c = (c.read_log-intake.new.room, c.write.result, search rules)
