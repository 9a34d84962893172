use Rattle.logs.proofs.Outcomes.{before_sound}
use Rattle.logs.proofs.Runs.{ruled}
use Rattle.logs.proofs.Sound.{sound}
use Rattle.logs.proofs.machine.Machine.refused.Goals as goal

pub next_line-requires : goal.next_line-requires
next_line-requires c = (sound _ (before_sound _ (ruled _ c.args.self.ruled).before)).few
