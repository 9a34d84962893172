use Rattle.gf2.proofs.Turns.{among, length_lower, lower_place}
use Rattle.gf2.proofs.Lists.{front_turn}
use Rattle.gf2.specs.Poly.{elem, lower}
use lib.ListN.{length, drop_of_length-le}
use lib.Seq.{take_all}
use native.Mathlib.Omega.{arith}
use Prim.Native.Nat.{ℕ, ◌-◌}
use mathlib.Core.List.{List, ◌++◌, append-nil}
use mathlib.Core.Bool.{Bool, false}
use mathlib.Core.Path.{sym, ◌∙◌, ap, ap₂}
use Rattle.gf2.proofs.fill_lower.Goals as goal

pub loop-place-preserved : goal.loop-place-preserved
loop-place-preserved c =
    let a = c.args in
    let n = length a.row.now in
    let p = c.loop-place.place in
    front_turn (lower n a.powers.now) a.row.now c.loop-place.row p c.contains.result false (omega (arith, length_lower n a.powers.now)) (omega arith)
    (c.contains.ensures.value ∙ among _ a.powers.now ∙ ap (λ (k : ℕ). elem (k - 1 - p) a.powers.now) c.loop-place.auto.row ∙ sym (lower_place n a.powers.now p (omega arith))) c.loop-place.invariant

pub returns : goal.returns
returns c =
    let a = c.args in
    let n = length a.row.now in
    c.loop-place.invariant
    ∙ ap₂ (λ (x y : List Bool). x ++ y) (take_all c.loop-place.place (lower n a.powers.now) (omega (arith, length_lower n a.powers.now))) (drop_of_length-le a.row.now {i = c.loop-place.place} (omega arith))
    ∙ append-nil (lower n a.powers.now)
