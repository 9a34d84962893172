-- What the private functions owe each other: a text is built piece by piece, each of which has to fit. No public promise cites this
-- file. Assumes nothing.
use Rattle.std.specs.Prelude.{ℕ, ◌-◌, ◌*◌, ◌^◌, ◌≤◌, ◌≡◌, List, [], ◌∷◌, ◌++◌, length, true, false, ◌⊎◌, T, Float, Option, Some, None}
use Rattle.std.specs.Float.{binary64}
use Rattle.std.specs.Float.Ieee.{fits}
use Rattle.std.specs.Float.Ieee.Exact.{HasValue}
use Rattle.std.specs.Float.Ieee.Positive.{num, den}
use Rattle.std.specs.Prelude.{Result}
use Rattle.std.specs.Borrow.{MutBor}
use Rattle.std.specs.Fn.{Once}
use Rattle.answers.specs.declared.Refusal.{Refusal}
use Rattle.summary.specs.declared.building.Text.{Text}
use Rattle.text.specs.Ascii.{tab}
use Rattle.logs.specs.Decimal.{decimal}
use Rattle.summary.specs.Report.{ended}
use Rattle.summary.specs.Export.{cell}

-- the bytes that a text has room for
abbrev pub room : ℕ
room = 512

abbrev pub content : Text → List ℕ
content t = t.0.items

-- the text t with more bytes, where there is room for them
pub record Grows (t : Text) (more : List ℕ) (r : Text) : Type 0 where
  pub text : length (content t ++ more) ≤ room → content r ≡ content t ++ more

-- what is known of a number that a cell shows
pub record Measured (x : Float) : Type 0 where
  pub holds : T (fits binary64 x)
  pub value : HasValue x false (num x) (den x)
  pub most : num x ≤ 8 * den x
  pub least : (num x ≡ 0) ⊎ (den x ≤ num x * 2 ^ 20)

-- the cell of a number, or of none
abbrev pub option_cell : Option Float → List ℕ
option_cell (Some x) = cell true x
option_cell None = []

-- numbers with a tab after each, and what follows them
abbrev pub tabbed : List ℕ → List ℕ → List ℕ
tabbed [] rest = rest
tabbed (n ∷ numbers) rest = ended (decimal n) tab ++ tabbed numbers rest

-- digits * 2 ^ (field - 1075), in units of 2 ^ -72
abbrev pub scaled : ℕ → ℕ → ℕ
scaled field digits = digits * 2 ^ (field - 1003)

-- what a writer of counts, or of a log, may have done with an output
pub record Wrote {F A : Type 0} (g : Once F (A × (MutBor (List ℕ) × Unit {0})) (Result ℕ Refusal × (MutBor (List ℕ) × Unit {0}))) (write : F)
    (of : A) (old : List ℕ) (result : Result ℕ Refusal) (new : List ℕ) : Type 0 where
  pub lent : MutBor (List ℕ)
  pub before : lent.now ≡ old
  pub back : MutBor (List ℕ)
  pub call : g.post write (of, (lent, tt)) (result, (back, tt))
  pub after : back.now ≡ new
