use Rattle.std.proofs.Common.{refl, sym, ap, ◌∙◌, arith, rules, eqb-true}
use Rattle.logs.specs.declared.Phase.TheVariants.{Open}
use Rattle.logs.specs.declared.Reader.{Reader}
use Rattle.logs.specs.Reader.{is_reader, run}
use Rattle.logs.proofs.Outcomes.{before_sound}
use Rattle.logs.proofs.Phases.{does_not_differ}
use Rattle.logs.proofs.Runs.{ruled, between_ruled}
use Rattle.logs.proofs.Takes.{open_between, between_with, one_slot}
use Rattle.logs.proofs.machine.Machine.take_slots.Goals as goal

pub loop-outcome-init : goal.loop-outcome-init
loop-outcome-init c = let m = c.args.self.now in ((ruled m.reader m.ruled).before, refl, omega arith)

pub with_slot-counts-requires-clause-sound : goal.with_slot-counts-requires-clause-sound
with_slot-counts-requires-clause-sound c = before_sound _ c.loop-outcome.invariant.0

pub loop-outcome-smaller : goal.loop-outcome-smaller
loop-outcome-smaller c = let w = one_slot _ _ _ _ c.loop-outcome.invariant.0 c.in-Some.ensures in omega arith

pub loop-outcome-preserved : goal.loop-outcome-preserved
loop-outcome-preserved c =
    let p = c.loop-outcome.invariant in
    let w = one_slot _ _ _ _ p.0 c.in-Some.ensures in
    rw c.with_slot-counts.ensures (w.before, p.1 ∙ w.same, omega arith)

pub invariant_of-self : goal.invariant_of-self
invariant_of-self c =
    let m = c.args.self.now in
    let o = does_not_differ m.reader.phase _ c.ne.ensures c.if-ne.false in
    let e = between_with m.reader (m.ruled, search rules) o (eqb-true _ _ (sym c.holds_nothing.ensures ∙ c.if-not-holds_nothing.false)) c.loop-outcome.counts in
    record { ruled = ap is_reader e ∙ between_ruled Open _ refl c.loop-outcome.invariant.0 }

pub returns-clause-same : goal.returns-clause-same
returns-clause-same c =
    let m = c.args.self.now in
    let o = does_not_differ m.reader.phase _ c.ne.ensures c.if-ne.false in
    let e = between_with m.reader (m.ruled, search rules) o (eqb-true _ _ (sym c.holds_nothing.ensures ∙ c.if-not-holds_nothing.false)) c.loop-outcome.counts in
    ap (λ (r : Reader). run r c.args.piece.now) (open_between m.reader (m.ruled, search rules) o (eqb-true _ _ (sym c.holds_nothing.ensures ∙ c.if-not-holds_nothing.false))) ∙ c.loop-outcome.invariant.1
    ∙ ap (λ (r : Reader). run r c.loop-outcome.rest.now) (sym e)
