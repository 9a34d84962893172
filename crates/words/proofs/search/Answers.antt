-- `words::search`: the row itself, the voted row, or none. Assumes nothing.
use native.Mathlib.Omega.{arith}
use mathlib.Core.Path.{◌≡◌, refl, sym, ◌∙◌, subst}
use mathlib.Core.Bool.{Bool, true, false≢true}
use mathlib.Core.Logic.{◌↔◌}
use Prim.Native.Nat.{ℕ, ◌≤◌}
use mathlib.Core.List.{List}
use lib.ListN.{length}
use Rattle.code.specs.Code.{CodeWord}
use Rattle.code.specs.Vote.{parity_sums}
use Rattle.words.specs.Words.{FiveWords, row_of_words}
use Rattle.words.specs.Circle.{Lies, Round}
use Rattle.words.specs.Near.{NoneNear, Searched}
use Rattle.words.proofs.Words.{five_lies, length_row}
use Rattle.words.proofs.Rounds.{length_sums}
use Rattle.words.proofs.Outcomes.{found_clean, found_voted, many_none, voted_none, voted_word, of_row}
use Rattle.words.proofs.search.Goals as goal

pub returns-then-is_even : goal.returns-then-is_even
returns-then-is_even c =
    let k = c.kept-given in
    let row = row_of_words k.result in
    let long : length row ≡ 272 = length_row k.result k.ensures.0.five in
    let found = found_clean row long k.result k.ensures.0 refl
    ((c.is_even.ensures row long (c.of-circle.ensures row (omega arith) (five_lies k.result k.ensures.0))).0 c.if-is_even.true) in
    (found.0, of_row k.ensures.1 found.1)

-- the sums of a row of five words, twice round
met : (given around sums again : List ℕ) → FiveWords given
    → ((bits : List Bool) → length bits ≤ 273 → Lies given bits → Round around bits)
    → ((bits : List Bool) → Round around bits → Lies sums (parity_sums bits))
    → ((bits : List Bool) → length bits ≤ 273 → Lies sums bits → Round again bits)
    → Round again (parity_sums (row_of_words given))
met given around sums again five twice summed meet =
    let row = row_of_words given in
    meet (parity_sums row) (omega (arith, length_sums row)) (summed row (twice row (omega (arith, length_row given five.five)) (five_lies given five)))

pub returns-in_err-changed : goal.returns-in_err-changed
returns-in_err-changed c =
    let k = c.kept-given in
    let row = row_of_words k.result in
    let many = c.in_err-changed.ensures (parity_sums row) (met k.result _ _ _ k.ensures.0 c.of-circle.ensures c.sums.ensures c.of.ensures) in
    subst (Searched (row_of_words c.args.row)) (sym c.from_residual.ensures)
    (subst NoneNear k.ensures.1 (many_none row (length_row k.result k.ensures.0.five) many))

pub sum_of-word-requires : goal.sum_of-word-requires
sum_of-word-requires c =
    let k = c.kept-given in
    (k.ensures.0, (c.in_ok-changed.ensures _ (met k.result _ _ _ k.ensures.0 c.of-circle.ensures c.sums.ensures c.of.ensures)).0)

-- the voted row is tested as the row itself is
tested : (word around : List ℕ) (even : Bool) → FiveWords word
    → ((bits : List Bool) → length bits ≤ 273 → Lies word bits → Round around bits)
    → ((bits : List Bool) → length bits ≡ 272 → Round around bits → (even ≡ true) ↔ CodeWord bits)
    → (even ≡ true) ↔ CodeWord (row_of_words word)
tested word around even five twice test =
    let long : length (row_of_words word) ≡ 272 = length_row word five.five in
    test (row_of_words word) long (twice (row_of_words word) (omega arith) (five_lies word five))

pub returns-then-not-is_even : goal.returns-then-not-is_even
returns-then-not-is_even c =
    let k = c.kept-given in
    let row = row_of_words k.result in
    let long = length_row k.result k.ensures.0.five in
    let t = c.in_ok-changed in
    let few = t.ensures (parity_sums row) (met k.result _ _ _ k.ensures.0 c.of-circle.ensures c.sums.ensures c.of.ensures) in
    let s = c.sum_of-word in
    let is = voted_word row long t.field-0.changed k.result s.result refl few.1 s.ensures.1 in
    subst NoneNear k.ensures.1
    (voted_none row long (λ code. false≢true (sym c.if-not-is_even.true ∙ (tested s.result _ _ s.ensures.0 c.of-2.ensures c.is_even-2.ensures).1 (subst CodeWord (sym is) code))))

pub returns : goal.returns
returns c =
    let k = c.kept-given in
    let row = row_of_words k.result in
    let t = c.in_ok-changed in
    let few = t.ensures (parity_sums row) (met k.result _ _ _ k.ensures.0 c.of-circle.ensures c.sums.ensures c.of.ensures) in
    let s = c.sum_of-word in
    let found = found_voted row (length_row k.result k.ensures.0.five) t.field-0.count t.field-0.changed k.result s.result refl few.0 few.1 few.2 few.3 s.ensures
    ((tested s.result _ _ s.ensures.0 c.of-2.ensures c.is_even-2.ensures).0 c.if-not-is_even.false) in
    (found.0, of_row k.ensures.1 found.1)
