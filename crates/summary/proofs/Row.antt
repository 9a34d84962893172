-- The two cells among the bytes of a row: no field of it holds a tab or a line feed. Assumes nothing.
use Prim.Native.Nat.{ℕ, suc, zero, ◌+◌, ◌*◌, ◌/◌, ◌%◌, ◌≤◌}
use mathlib.Core.Path.{◌≡◌, refl}
use mathlib.Core.Bool.{Bool, true, not, ◌&&◌, and-eq-true_iff}
use mathlib.Core.List.{List, [], ◌∷◌, ◌++◌}
use native.Mathlib.Omega.{arith}
use lib.Dec.{eqb}
use lib.Ieee.{Float}
use lib.Ieee.Positive.{num, den}
use borrow.Author.Tests.{ne_eqb}
use Rattle.logs.specs.declared.Counts.{Counts}
use Rattle.logs.specs.Decimal.{decimal}
use Rattle.text.specs.Ascii.{tab, line_feed}
use Rattle.logs.proofs.Lists.{cond_with}
use Rattle.logs.proofs.Decimal.{decimal_with}
use Rattle.summary.specs.declared.Summary.{Summary}
use Rattle.summary.specs.Report.{ended, frequency}
use Rattle.summary.specs.Export.{decimals, expansion, cell, sheet_row}
use Rattle.summary.specs.Cells.{is_field, AfterFields, InRow}

-- a digit, or the point
field_next : (b : ℕ) (text : List ℕ) → 46 ≤ b → is_field text ≡ true → is_field (b ∷ text) ≡ true
unfolding is_field
field_next b text h e = rw (ne_eqb b 9 (λ f. omega arith), ne_eqb b 10 (λ f. omega arith)) e

field_none : is_field [] ≡ true
unfolding is_field
field_none = refl

field_append : (a b : List ℕ) → is_field a ≡ true → is_field b ≡ true → is_field (a ++ b) ≡ true
unfolding is_field
field_append [] b e f = f
field_append (x ∷ a) b e f =
    let r = (and-eq-true_iff (not (eqb x tab) && not (eqb x line_feed)) (is_field a)).0 e in
    rw r.0 (field_append a b r.1 f)

decimal_field : (n : ℕ) → is_field (decimal n) ≡ true
decimal_field n = decimal_with (λ (l : List ℕ). is_field l ≡ true) (λ d. field_next (48 + d) [] (omega arith) field_none) field_append n

decimals_field : (k r d : ℕ) → is_field (decimals k r d) ≡ true
unfolding decimals
decimals_field zero r d = field_none
decimals_field (suc k) r d =
    cond_with (λ (l : List ℕ). is_field l ≡ true) (eqb r 0) (λ e. field_none)
    (λ e. field_next (48 + 10 * r / d) (decimals k (10 * r % d) d) (omega arith) (decimals_field k (10 * r % d) d))

cell_field : (exists : Bool) (x : Float) → is_field (cell exists x) ≡ true
unfolding cell expansion
cell_field exists x =
    let r = num x % den x in
    cond_with (λ (l : List ℕ). is_field l ≡ true) exists
    (λ e. field_append (decimal (num x / den x)) _ (decimal_field (num x / den x))
    (cond_with (λ (l : List ℕ). is_field l ≡ true) (eqb r 0) (λ e. field_none)
    (λ e. field_next 46 (decimals 1074 r (den x)) (omega arith) (decimals_field 1074 r (den x)))))
    (λ e. field_none)

number : (n k : ℕ) (more rest : List ℕ) → AfterFields k more rest → AfterFields (suc k) (ended (decimal n) tab ++ more) rest
number n k more rest f = (decimal n, more, decimal_field n, refl, f)

-- THE TWO CELLS ARE THE LAST TWO OF THE ELEVEN FIELDS THAT THE TABS OF A ROW PART
pub row_cells : (counts : Counts) (summary : Summary) → InRow summary (sheet_row counts summary)
unfolding sheet_row
row_cells c s =
    record {
      text = number c.channel 8 _ _ (number (frequency c) 7 _ _ (number c.slots 6 _ _ (number c.read 5 _ _ (number c.clean 4 _ _
          (number c.bits 3 _ _ (number c.noword 2 _ _ (number c.check 1 _ _ (number c.missing 0 _ _ refl))))))));
      mean = cell_field s.mean_exists s.mean;
      missing = cell_field s.missing_exists s.missing;
    }
