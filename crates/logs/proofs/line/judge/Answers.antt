use Rattle.std.proofs.Common.{◌≡◌, ℕ, None, Some, Bool, true, false, cond, refl}
use Rattle.logs.proofs.Outcomes.{next}
use Rattle.logs.proofs.line.judge.Goals as goal

is_true : (t : Bool) (n m : ℕ) → Some n ≡ cond t (Some m) None → t ≡ true
is_true true n m e = refl
is_true false n m e = cc

pub with_slot-requires-clause-room : goal.with_slot-requires-clause-room
with_slot-requires-clause-room c = (next _ c.args.line.now (is_true _ _ _ c.in_ok-next_outcome.ensures)).few
