-- The text of a log is bytes. Assumes nothing.
use Prim.Native.Nat.{ℕ, ◌+◌, ◌≤◌}
use mathlib.Core.Path.{◌≡◌, refl}
use mathlib.Core.Bool.{true, and-eq-true_iff}
use mathlib.Core.List.{List, [], ◌∷◌}
use native.Mathlib.Omega.{arith}
use lib.ListN.{length}
use lib.Pow.{are_bytes}
use Rattle.answers.proofs.Bytes.{byte_one, bytes_append}
use Rattle.band.proofs.Laws.{in_range}
use Rattle.logs.specs.Log.{first_line, slot_line, is_outcome, slot_lines, log_text, all_outcomes}
use Rattle.logs.specs.Beginning.{Beginning, nothing, lines, text_of, is_good}
use Rattle.logs.proofs.Decimal.{decimal_bytes}
use Rattle.logs.proofs.Outcomes.{outcome_with}
use Rattle.logs.proofs.Beginnings.{good}

first_bytes : (n : ℕ) → n ≤ 204 → are_bytes (first_line n) ≡ true
unfolding first_line
first_bytes n h = decimal_bytes n (omega arith)

slot_bytes : (n o : ℕ) → n ≤ 999999 → is_outcome o ≡ true → are_bytes (slot_line n o) ≡ true
unfolding slot_line
slot_bytes n o h k =
    rw (bytes_append, decimal_bytes n (omega arith))
    (outcome_with (λ (o : ℕ). are_bytes (o ∷ []) ≡ true) (λ b h. byte_one (48 + b) (omega arith)) refl refl refl o k)

slots_bytes : (os : List ℕ) (n : ℕ) → all_outcomes os ≡ true → n + length os ≤ 1000000 → are_bytes (slot_lines n os) ≡ true
unfolding slot_lines all_outcomes
slots_bytes [] n g h = refl
slots_bytes (o ∷ os) n g h =
    let a = (and-eq-true_iff (is_outcome o) (all_outcomes os)).0 g in
    rw (bytes_append, slot_bytes n o (omega arith) a.0) (slots_bytes os (n + 1) a.1 (omega arith))

pub begin_bytes : (b : Beginning) → is_good b ≡ true → are_bytes (text_of b) ≡ true
unfolding log_text
begin_bytes nothing g = refl
begin_bytes (lines n os) g =
    let h = good n os g in rw (bytes_append, first_bytes n (in_range n h.band).1) (slots_bytes os 1 h.all (omega (arith, h.few)))
