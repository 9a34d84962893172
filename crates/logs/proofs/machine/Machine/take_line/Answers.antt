use Rattle.std.proofs.Common.{◌≡◌, ◌+◌, ◌≤◌, rules, refl, sym, ap, ◌∙◌, arith, length}
use Rattle.logs.specs.declared.Reader.{Reader}
use Rattle.logs.specs.Log.{judged}
use Rattle.logs.specs.Reader.{after_line, is_reader, run}
use Rattle.logs.proofs.Outcomes.{before_sound}
use Rattle.logs.proofs.Phases.{differs, does_not_differ}
use Rattle.logs.proofs.Runs.{Kept, ruled, reader_small, run_shut, run_none, between_ruled, after_kept}
use Rattle.logs.proofs.Takes.{cut, held_more, more_ruled, line_held, line_more, line_judged, line_refused}
use Rattle.logs.proofs.machine.Machine.take_line.Goals.{in-Some-judge, in-None}
use Rattle.logs.proofs.machine.Machine.take_line.Goals as goal

pub returns-then-ne-clause-same : goal.returns-then-ne-clause-same
returns-then-ne-clause-same c =
    let s = c.args.self.now.reader in
    let shut = differs s.phase _ c.ne.ensures c.if-ne.true in
    run_shut s c.args.piece.now shut ∙ sym (run_none s)

pub overflow_sub-room : goal.overflow_sub-room
overflow_sub-room c = reader_small c.args.self.now.reader c.args.self.now.ruled

pub invariant_of-self : goal.invariant_of-self
invariant_of-self c =
    let r = ruled c.args.self.now.reader c.args.self.now.ruled in
    record { ruled = ap is_reader c.between_lines-self.ensures ∙ between_ruled _ _ refl r.before }

pub returns-then-room-line-clause-same : goal.returns-then-room-line-clause-same
returns-then-room-line-clause-same c =
    let m = c.args.self.now in
    let s = m.reader in
    let k : Kept s = (m.ruled, search rules) in
    let o = does_not_differ s.phase _ c.ne.ensures c.if-ne.false in
    let t = cut c.args.piece.now _ _ _ _ _ c.min.ensures c.find.ensures.first c.find.ensures.within c.split_at.ensures.front c.split_at.ensures.back in
    line_refused s _ _ _ _ k o t (omega (arith, reader_small s m.ruled)) ∙ sym c.between_lines-self.ensures ∙ sym (run_none _)

pub slice_bounds-copy_from_slice-end : goal.slice_bounds-copy_from_slice-end
slice_bounds-copy_from_slice-end c = let m = c.args.self.now in omega (arith, reader_small m.reader m.ruled)

pub invariant_of-self-in_default : goal.invariant_of-self-in_default
invariant_of-self-in_default c =
    let m = c.args.self.now in
    let s = m.reader in
    let k : Kept s = (m.ruled, search rules) in
    let o = does_not_differ s.phase _ c.ne.ensures c.if-ne.false in
    let t = cut c.args.piece.now _ _ _ _ _ c.min.ensures c.find.ensures.first c.find.ensures.within c.split_at.ensures.front c.split_at.ensures.back in
    let few : s.length + length c.split_at.result.0.now ≤ 63 = omega (arith, reader_small s m.ruled) in
    let e = held_more s k o c.split_at.result.0.now _ _ _ c.copy_from_slice.ensures.after refl (omega arith) in
    record { ruled = ap is_reader e ∙ more_ruled s k _ t.plain few }

pub returns-in_default-clause-same : goal.returns-in_default-clause-same
returns-in_default-clause-same c =
    let m = c.args.self.now in
    let s = m.reader in
    let k : Kept s = (m.ruled, search rules) in
    let o = does_not_differ s.phase _ c.ne.ensures c.if-ne.false in
    let t = cut c.args.piece.now _ _ _ _ _ c.min.ensures c.find.ensures.first c.find.ensures.within c.split_at.ensures.front c.split_at.ensures.back in
    let few : s.length + length c.split_at.result.0.now ≤ 63 = omega (arith, reader_small s m.ruled) in
    let e = held_more s k o c.split_at.result.0.now _ _ _ c.copy_from_slice.ensures.after refl (omega arith) in
    line_held s _ _ _ _ k o t few ∙ ap (λ (r : Reader). run r c.split_at.result.1.now) (sym e)

pub shared_ref_as_front-judge : goal.shared_ref_as_front-judge
shared_ref_as_front-judge c = let m = c.args.self.now in omega (arith, reader_small m.reader m.ruled)

pub judge-requires : goal.judge-requires
judge-requires c = let m = c.args.self.now in before_sound _ (ruled m.reader m.ruled).before

pub invariant_of-self-2 : goal.invariant_of-self-2
invariant_of-self-2 c =
    let m = c.args.self.now in
    let s = m.reader in
    let is : c.match-judge.self ≡ after_line s.counts c.judge.result = elim c.match-judge.branch [
      | in-Some-judge w ↦ w.self-is ∙ w.between_lines-self-in-Some-judge.ensures ∙ ap (after_line s.counts) (sym w.in-Some-judge.is)
      | in-None w ↦ w.self-is ∙ w.between_lines-self-in-None.ensures ∙ ap (after_line s.counts) (sym w.in-None.is)
    ] in
    record { ruled = ap is_reader (is ∙ ap (after_line s.counts) c.judge.ensures) ∙ (after_kept s.counts _ (ruled s m.ruled).before).0 }

pub returns-clause-same : goal.returns-clause-same
returns-clause-same c =
    let m = c.args.self.now in
    let s = m.reader in
    let k : Kept s = (m.ruled, search rules) in
    let is : c.match-judge.self ≡ after_line s.counts c.judge.result = elim c.match-judge.branch [
      | in-Some-judge w ↦ w.self-is ∙ w.between_lines-self-in-Some-judge.ensures ∙ ap (after_line s.counts) (sym w.in-Some-judge.is)
      | in-None w ↦ w.self-is ∙ w.between_lines-self-in-None.ensures ∙ ap (after_line s.counts) (sym w.in-None.is)
    ] in
    let o = does_not_differ s.phase _ c.ne.ensures c.if-ne.false in
    let t = cut c.args.piece.now _ _ _ _ _ c.min.ensures c.find.ensures.first c.find.ensures.within c.split_at.ensures.front c.split_at.ensures.back in
    let few : s.length + length c.split_at.result.0.now ≤ 63 = omega (arith, reader_small s m.ruled) in
    let line = line_more s k c.split_at.result.0.now _ _ _ c.copy_from_slice.ensures.after refl in
    line_judged s _ _ _ _ _ _ k o t few (omega (arith, few)) c.in-Some.ensures.cases.0
    ∙ ap (λ (r : Reader). run r c.in-Some.behind.now) (sym (is ∙ ap (after_line s.counts) (c.judge.ensures ∙ ap (judged s.counts) line)))
