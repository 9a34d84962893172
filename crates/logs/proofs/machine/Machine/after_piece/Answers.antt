use Rattle.std.proofs.Common.{rules, sym, ◌∙◌}
use Rattle.logs.proofs.Phases.{not_same}
use Rattle.logs.proofs.Runs.{fed_refused}
use Rattle.logs.proofs.machine.Machine.after_piece.Goals as goal

pub returns-else-eq : goal.returns-else-eq
returns-else-eq c =
    let s = c.args.self.reader in
    c.refused.ensures ∙ sym (fed_refused s (c.args.self.ruled, search rules) (not_same s.phase _ c.eq.ensures c.if-eq.false))
