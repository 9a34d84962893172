use Rattle.std.proofs.Common.{sym, ◌∙◌, ap}
use mathlib.Core.Bool.{not}
use Rattle.summary.proofs.Same.{nan_is, nan_bits}
use Rattle.summary.proofs.binary.same_bits.Goals as goal

pub returns-else-not-is_nan : goal.returns-else-not-is_nan
returns-else-not-is_nan c =
    ap not c.if-not-is_nan.false ∙ sym (nan_bits c.args.given c.args.own (nan_is c.args.given (sym c.is_nan.ensures.value ∙ c.if-not-is_nan.false)) c.requires)
