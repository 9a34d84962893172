use Rattle.std.proofs.Common.{arith, sym, ◌∙◌, ap, subst, ℕ, ◌*◌, ◌<◌, ◌^◌}
use lib.Ieee.Positive.{den}
use lib.Ieee.{binary64, to_bits}
use Rattle.summary.proofs.Decode.{field_of, digits_of, decoded}
use Rattle.summary.proofs.Units.{scaled_units, scaled_small, shifted}
use Rattle.summary.proofs.binary.units.Goals as goal

pub overflow_sub-result : goal.overflow_sub-result
overflow_sub-result c = (decoded c.args.number c.requires c.if-bits-eq0.false).least

pub overflow_shl-result : goal.overflow_shl-result
overflow_shl-result c = omega (arith, (decoded c.args.number c.requires c.if-bits-eq0.false).most)

pub returns-clause-value : goal.returns-clause-value
returns-clause-value c =
    let b = to_bits binary64 c.args.number in
    let d = decoded c.args.number c.requires c.if-bits-eq0.false in
    ap (λ (n : ℕ). n * den c.args.number) (shifted b c.from.result c.from.ensures d.most) ∙ scaled_units c.args.number b d

pub returns-clause-bound : goal.returns-clause-bound
returns-clause-bound c =
    let b = to_bits binary64 c.args.number in
    let d = decoded c.args.number c.requires c.if-bits-eq0.false in
    subst (λ (n : ℕ). n < 2 ^ 76) (sym (shifted b c.from.result c.from.ensures d.most)) (scaled_small (field_of b) (digits_of b) d.most (omega arith))
