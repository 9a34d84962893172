use Rattle.std.proofs.Common.{ap, sym, ◌∙◌}
use Rattle.std.proofs.lemmas.Bool.{eqb-true}
use Rattle.std.proofs.lemmas.List.{nil_from_length}
use Rattle.logs.specs.Reader.{run}
use Rattle.logs.proofs.Runs.{run_none}
use Rattle.logs.proofs.machine.Machine.take.Goals as goal

pub returns : goal.returns
returns c =
    let p = c.loop-rest in
    let none = nil_from_length p.rest.now (eqb-true _ 0 (sym c.is_empty.ensures ∙ c.loop-rest-test.false)) in
    sym (p.invariant ∙ ap (run p.self.reader) none ∙ run_none p.self.reader)
