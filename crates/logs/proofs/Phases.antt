-- The comparison of a phase with the open one, as the code makes it. Assumes nothing.
use Rattle.std.proofs.Common.{◌≡◌, Bool, true, false, not, refl, sym, ◌∙◌}
use Rattle.std.proofs.lemmas.Bool.{not-true, not-false}
use denote.Enum.Bare.{sameb}
use Rattle.logs.specs.contracts.Phase.{the_type}
use Rattle.logs.specs.declared.Phase.{Phase}
use Rattle.logs.specs.declared.Phase.TheVariants.{Open, Refused, Ended}
use Rattle.logs.specs.Reader.{is_open}

open_same : (p : Phase) → is_open p ≡ sameb the_type p Open
open_same Open = refl
open_same Refused = refl
open_same Ended = refl

pub not_same : (p : Phase) (r : Bool) → r ≡ sameb the_type p Open → r ≡ false → is_open p ≡ false
not_same p r e f = open_same p ∙ sym e ∙ f

pub differs : (p : Phase) (r : Bool) → r ≡ not (sameb the_type p Open) → r ≡ true → is_open p ≡ false
differs p r e f = open_same p ∙ not-true _ (sym e ∙ f)

pub does_not_differ : (p : Phase) (r : Bool) → r ≡ not (sameb the_type p Open) → r ≡ false → is_open p ≡ true
does_not_differ p r e f = open_same p ∙ not-false _ (sym e ∙ f)
