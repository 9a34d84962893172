-- The report and a refusal fit the room of a text. Assumes nothing.
use Prim.Native.Nat.{ℕ, ◌+◌, ◌*◌, ◌/◌, ◌≤◌}
use mathlib.Core.List.{List, [], ◌∷◌, ◌++◌}
use native.Mathlib.Omega.{arith}
use lib.ListN.{length, length-append}
use lib.Dec.{eqb}
use Rattle.text.specs.Ascii.{ascii}
use Rattle.logs.specs.declared.Counts.{Counts}
use Rattle.logs.specs.Decimal.{decimal}
use Rattle.logs.proofs.Decimal.{decimal_length}
use Rattle.logs.proofs.Lists.{cond_with}
use Rattle.summary.specs.Report.{ended, line, frequency, thousandths, report_of, refusal_line}

-- a text of at most n bytes
pub record Short (text : List ℕ) (n : ℕ) : Type 0 where
  pub most : length text ≤ n

pub two : {a b : List ℕ} {m n : ℕ} → Short a m → Short b n → Short (a ++ b) (m + n)
two {a} {b} h k = record { most = omega (arith, length-append a b, h.most, k.most) }

pub number_short : (n : ℕ) → Short (decimal n) 20
number_short n = record { most = (decimal_length n).1 }

pub ended_short : {a : List ℕ} {n : ℕ} (mark : ℕ) → Short a n → Short (ended a mark) (n + 1)
ended_short {a} mark h = record { most = omega (arith, length-append a (mark ∷ []), h.most) }

line_short : (name : List ℕ) {value : List ℕ} → Short value 20 → Short (line name value) (length name + 1 + 21)
unfolding line
line_short name h = let k : Short name (length name) = record { most = omega arith } in two (ended_short 9 k) (ended_short 10 h)

mean_short : (bits read : ℕ) → Short (thousandths bits read) 20
unfolding thousandths
mean_short bits read =
    cond_with (λ (l : List ℕ). Short l 20) (eqb read 0) (λ e. record { most = omega arith }) (λ e. number_short (1000 * bits / read))

report_short : (c : Counts) → Short (report_of c) 241
unfolding report_of
report_short c =
    two (line_short _ (number_short (frequency c)))
    (two (line_short _ (number_short c.slots))
    (two (line_short _ (number_short c.read))
    (two (line_short _ (number_short c.clean))
    (two (line_short _ (number_short c.bits))
    (two (line_short _ (number_short c.noword))
    (two (line_short _ (number_short c.check))
    (two (line_short _ (number_short c.missing)) (line_short _ (mean_short c.bits c.read)))))))))

-- EVERY REPORT HAS AT MOST 241 BYTES
pub report_fits : (c : Counts) → length (report_of c) ≤ 241
report_fits c = (report_short c).most

-- AND EVERY REFUSAL AT MOST 50
pub refusal_fits : (number place : ℕ) → length (refusal_line number place) ≤ 50
unfolding refusal_line
refusal_fits number place =
    let w : Short (ended (ascii "refused") 9) 8 = record { most = omega arith } in
    (two w (two (ended_short 9 (number_short number)) (ended_short 10 (number_short place)))).most
