-- A log that is written line by line from outcomes leads the machine to their counts. Assumes nothing.
use Prim.Native.Nat.{ℕ, suc, zero, ◌+◌, ◌-◌, ◌<◌, ◌≤◌}
use mathlib.Core.Path.{◌≡◌, refl, ap, sym, ◌∙◌}
use mathlib.Core.Bool.{true, false, true≢false, and-eq-true_iff}
use mathlib.Core.List.{List, [], ◌∷◌, ◌++◌}
use native.Mathlib.Omega.{arith}
use lib.ListN.{length, get_or, drop, length-append}
use lib.Seq.{get_or-append-add, drop-append_seam}
use lib.Dec.{eqb, leb}
use borrow.Author.Tests.{lt-ltb, ne_eqb, leb-true, leb-false}
use Rattle.text.specs.Fields.{same_as}
use Rattle.text.proofs.Laws.{same_refl, same_true}
use Rattle.band.specs.Band.{is_channel}
use Rattle.band.proofs.Laws.{in_range}
use Rattle.logs.specs.declared.Counts.{Counts}
use Rattle.std.specs.Prelude.{Option, Some}
use Rattle.logs.specs.declared.Reader.{Reader}
use Rattle.logs.specs.declared.Phase.TheVariants.{Open}
use Rattle.logs.specs.Decimal.{decimal}
use Rattle.text.specs.Ascii.{tab}
use Rattle.logs.specs.Log.{first_line, slot_line, is_outcome, slot_lines, log_text, all_outcomes, counted, counts_from, tuned, last, channel_up_to, is_next, judged}
use Rattle.logs.specs.Reader.{between, fresh_reader, after_line, run, is_plain, is_before}
use Rattle.logs.proofs.Lists.{by_cases}
use Rattle.logs.proofs.Decimal.{decimal_length, decimal_plain, decimal_once}
use Rattle.logs.proofs.Lines.{channel_tab, channel_here, channel_next}
use Rattle.logs.proofs.Plain.{plain_append, plain_one}
use Rattle.logs.proofs.Outcomes.{outcome_with, judged_before}
use Rattle.logs.proofs.Runs.{run_none, line_run}

pub first_once : (m n : ℕ) → m ≤ 204 → n ≤ 204 → first_line m ≡ first_line n → m ≡ n
unfolding first_line
first_once m n h k e =
    decimal_once m n (omega arith) (omega arith)
    (sym (drop-append_seam channel_tab (decimal m)) ∙ ap (drop 8) e ∙ drop-append_seam channel_tab (decimal n))

not_last : (k n : ℕ) → n ≤ suc k → same_as (first_line n) (first_line (suc k)) ≡ false → n ≤ k
not_last k n h e =
    by_cases _ (leb n k) (leb-true n k)
    (λ f.
    let i : n ≡ suc k = omega (arith, leb-false n k f) in
    let t : same_as (first_line n) (first_line (suc k)) ≡ true = ap (λ (j : ℕ). same_as (first_line n) (first_line j)) (sym i) ∙ same_refl (first_line n) in
    absurd (true≢false (sym t ∙ e)))

-- a channel's first line is that channel's
pub channel_found : (k n : ℕ) → 1 ≤ n → n ≤ k → k ≤ 204 → channel_up_to k (first_line n) ≡ Some n
channel_found zero n o h m = absurd (omega arith)
channel_found (suc k) n o h m =
    by_cases _ (same_as (first_line n) (first_line (suc k)))
    (λ e. channel_here (suc k) (first_line n) (omega arith) e ∙ ap (λ (j : ℕ). Some j) (sym (first_once n (suc k) (omega arith) m (same_true _ _ e))))
    (λ e.
    let z : suc k - 1 ≡ k = omega arith in
    channel_next (suc k) (first_line n) (omega arith) e ∙ ap (λ (j : ℕ). channel_up_to j (first_line n)) z
    ∙ channel_found k n o (not_last k n h e) (omega arith))

tab_plain : is_plain channel_tab ≡ true
unfolding is_plain
tab_plain = refl

pub first_plain : (n : ℕ) → is_plain (first_line n) ≡ true
unfolding first_line
first_plain n = plain_append channel_tab (decimal n) tab_plain (decimal_plain n)

first_length : (n : ℕ) → length (first_line n) ≤ 63
unfolding first_line
first_length n = rw length-append (omega (arith, (decimal_length n).1))

first_judged : (n : ℕ) → is_channel n ≡ true → judged (tuned 0) (first_line n) ≡ Some (tuned n)
unfolding judged
first_judged n e = let r = in_range n e in rw (channel_found 204 n r.0 r.1 (omega arith))

-- a slot's line

pub slot_last : (n o : ℕ) → last (slot_line n o) ≡ o
unfolding slot_line
slot_last n o =
    let e : length (decimal n ++ (tab ∷ o ∷ [])) - 1 ≡ length (decimal n) + 1 = rw length-append (omega arith) in
    ap (λ (j : ℕ). get_or (decimal n ++ (tab ∷ o ∷ [])) j 0) e ∙ get_or-append-add (decimal n) (tab ∷ o ∷ []) 1 0

outcome_plain : (o : ℕ) → is_outcome o ≡ true → o ≡ 10 → ⊥
outcome_plain =
    outcome_with (λ (o : ℕ). o ≡ 10 → ⊥) (λ b h e. omega arith) (λ e. omega arith) (λ e. omega arith) (λ e. omega arith)

pub slot_plain : (n o : ℕ) → is_outcome o ≡ true → is_plain (slot_line n o) ≡ true
unfolding slot_line
slot_plain n o h =
    plain_append (decimal n) (tab ∷ o ∷ []) (decimal_plain n)
    (plain_append (tab ∷ []) (o ∷ []) (plain_one 9 (λ e. omega arith)) (plain_one o (outcome_plain o h)))

slot_length : (n o : ℕ) → length (slot_line n o) ≤ 63
unfolding slot_line
slot_length n o = rw length-append (omega (arith, (decimal_length n).1))

pub next_is : (n o : ℕ) → is_outcome o ≡ true → n < 999999 → is_next n (slot_line (n + 1) o) ≡ true
unfolding is_next
next_is n o h k = rw (slot_last (n + 1) o, lt-ltb n 999999 k, h, same_refl (slot_line (n + 1) o))

slot_judged : (c : Counts) (o : ℕ) → eqb c.channel 0 ≡ false → c.slots < 999999 → is_outcome o ≡ true
    → judged c (slot_line (c.slots + 1) o) ≡ Some (counted c o)
unfolding judged
slot_judged c o z h k = rw (slot_last (c.slots + 1) o, z, next_is c.slots o k h)

counted_next : (c : Counts) (o : ℕ) (os : List ℕ) (r : Reader)
    → run (between Open (counted c o)) (slot_lines ((counted c o).slots + 1) os) ≡ r → run (between Open (counted c o)) (slot_lines (c.slots + 1 + 1) os) ≡ r
unfolding counted
counted_next c o os r e = e

counted_channel : (c : Counts) (o : ℕ) → eqb c.channel 0 ≡ false → eqb (counted c o).channel 0 ≡ false
unfolding counted
counted_channel c o e = e

pub counts_channel : (os : List ℕ) (c : Counts) → (counts_from c os).channel ≡ c.channel
unfolding counts_from counted
counts_channel [] c = refl
counts_channel (o ∷ os) c = counts_channel os (counted c o)

pub all_snoc : (os : List ℕ) (o : ℕ) → all_outcomes os ≡ true → is_outcome o ≡ true → all_outcomes (os ++ (o ∷ [])) ≡ true
unfolding all_outcomes
all_snoc [] o h k = rw k
all_snoc (x ∷ os) o h k = let a = (and-eq-true_iff (is_outcome x) (all_outcomes os)).0 h in rw a.0 (all_snoc os o a.1 k)

counted_few : (c : Counts) (o n : ℕ) → c.slots + suc n ≤ 999999 → (counted c o).slots + n ≤ 999999
unfolding counted
counted_few c o n h = omega arith

-- a slot's line is read, and the next slot is next
pub slot_run : (c : Counts) (o : ℕ) (rest : List ℕ) → eqb c.channel 0 ≡ false → c.slots < 999999 → is_outcome o ≡ true
    → run (between Open c) (slot_line (c.slots + 1) o ++ (10 ∷ rest)) ≡ run (between Open (counted c o)) rest
slot_run c o rest z h k =
    line_run c (slot_line (c.slots + 1) o) rest (slot_plain (c.slots + 1) o k) (slot_length (c.slots + 1) o)
    ∙ ap (λ (j : Option Counts). run (after_line c j) rest) (slot_judged c o z h k)

pub slot_before : (c : Counts) (o : ℕ) → eqb c.channel 0 ≡ false → c.slots < 999999 → is_outcome o ≡ true → is_before c ≡ true
    → is_before (counted c o) ≡ true
slot_before c o z h k b =
    rw (slot_judged c o z h k) at (judged_before c (slot_line (c.slots + 1) o) b)

slots_run : (os : List ℕ) (c : Counts) → eqb c.channel 0 ≡ false → all_outcomes os ≡ true → c.slots + length os ≤ 999999
    → run (between Open c) (slot_lines (c.slots + 1) os) ≡ between Open (counts_from c os)
unfolding slot_lines counts_from all_outcomes
slots_run [] c z g h = run_none (between Open c)
slots_run (o ∷ os) c z g h =
    let a = (and-eq-true_iff (is_outcome o) (all_outcomes os)).0 g in
    slot_run c o (slot_lines (c.slots + 1 + 1) os) z (omega arith) a.0
    ∙ counted_next c o os _ (slots_run os (counted c o) (counted_channel c o z) a.1 (counted_few c o (length os) (omega arith)))

pub written_run : (n : ℕ) (os : List ℕ) → is_channel n ≡ true → all_outcomes os ≡ true → length os ≤ 999999
    → run fresh_reader (log_text n os) ≡ between Open (counts_from (tuned n) os)
unfolding log_text
written_run n os e g h =
    line_run (tuned 0) (first_line n) (slot_lines 1 os) (first_plain n) (first_length n)
    ∙ ap (λ (j : Option Counts). run (after_line (tuned 0) j) (slot_lines 1 os)) (first_judged n e)
    ∙ slots_run os (tuned n) (ne_eqb n 0 (λ z. omega (arith, (in_range n e).0))) g (omega arith)
