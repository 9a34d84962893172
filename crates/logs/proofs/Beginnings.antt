-- Good beginnings: what they count, which line may come next, and the beginning with that line. Assumes nothing.
use Prim.Native.Nat.{ℕ, ◌+◌, ◌≤◌}
use mathlib.Core.Path.{◌≡◌, refl, ap, sym, ◌∙◌}
use mathlib.Core.Bool.{true, false, ◌&&◌, true≢false, and-eq-true_iff}
use mathlib.Core.List.{List, [], ◌∷◌, ◌++◌, append_assoc}
use native.Mathlib.Omega.{arith}
use lib.ListN.{length, length-append}
use lib.Dec.{eqb, leb}
use borrow.Author.Tests.{leb-true, le-leb, ne_eqb}
use Rattle.band.specs.Band.{is_channel}
use Rattle.band.proofs.Laws.{in_range}
use Rattle.logs.specs.declared.Counts.{Counts}
use Rattle.logs.specs.declared.Reader.{Reader}
use Rattle.logs.specs.declared.Phase.TheVariants.{Open, Refused}
use Rattle.logs.specs.Log.{first_line, slot_line, slot_lines, log_text, all_outcomes, counted, counts_from, tuned, last, channel_up_to, is_next, judged}
use Rattle.logs.specs.Reader.{between, fresh_reader, after_line, run, is_plain}
use Rattle.logs.specs.Beginning.{Beginning, nothing, lines, text_of, is_good, counts_of, GoodLine}
use Rattle.std.specs.Prelude.{Option, Some, None, IfSome}
use Rattle.text.proofs.Laws.{same_true}
use Rattle.logs.proofs.Lists.{by_cases}
use Rattle.logs.proofs.Lines.{channel_line}
use Rattle.logs.proofs.Outcomes.{next}
use Rattle.logs.proofs.Runs.{run_append}
use Rattle.logs.proofs.Written.{channel_found, first_plain, slot_plain, next_is, all_snoc, counts_channel, written_run}

-- what `is_good` tests
pub record Good (n : ℕ) (os : List ℕ) : Type 0 where
  pub band : is_channel n ≡ true
  pub all : all_outcomes os ≡ true
  pub few : length os ≤ 999999

pub good : (n : ℕ) (os : List ℕ) → is_good (lines n os) ≡ true → Good n os
good n os e =
    let a = (and-eq-true_iff (is_channel n && all_outcomes os) (leb (length os) 999999)).0 e in
    let b = (and-eq-true_iff (is_channel n) (all_outcomes os)).0 a.0 in
    record { band = b.0; all = b.1; few = leb-true (length os) 999999 a.1 }

pub good_is : (n : ℕ) (os : List ℕ) → Good n os → is_good (lines n os) ≡ true
good_is n os h = rw (h.band, h.all, le-leb (length os) 999999 h.few)

-- ---- what it counts

slots_more : (os : List ℕ) (c : Counts) → (counts_from c os).slots ≡ c.slots + length os
unfolding counts_from counted
slots_more [] c = omega arith
slots_more (o ∷ os) c = slots_more os (counted c o) ∙ omega arith

pub slots_are : (n : ℕ) (os : List ℕ) → (counts_from (tuned n) os).slots ≡ length os
slots_are n os = slots_more os (tuned n) ∙ omega arith

pub tuned_some : (n : ℕ) (os : List ℕ) → is_channel n ≡ true → eqb (counts_from (tuned n) os).channel 0 ≡ false
tuned_some n os h = ap (λ (k : ℕ). eqb k 0) (counts_channel os (tuned n)) ∙ ne_eqb n 0 (λ z. omega (arith, (in_range n h).0))

-- ---- where it leads

pub begin_run : (b : Beginning) (rest : List ℕ) → is_good b ≡ true → run fresh_reader (text_of b ++ rest) ≡ run (between Open (counts_of b)) rest
begin_run nothing rest g = refl
begin_run (lines n os) rest g =
    let h = good n os g in
    run_append fresh_reader (log_text n os) rest ∙ ap (λ (s : Reader). run s rest) (written_run n os h.band h.all h.few)

-- ---- the line that comes next

-- by cases: it may come next, or it may not and is judged bad
pub next_line : (b : Beginning) (line : List ℕ) (P : Type 0) → is_good b ≡ true → (GoodLine b line → P)
    → ((GoodLine b line → ⊥) → after_line (counts_of b) (judged (counts_of b) line) ≡ between Refused (counts_of b) → P) → P
unfolding judged
next_line nothing line P g f bad = first (channel_up_to 204 line) refl (channel_line 204 line)
  where
    first : (o : Option ℕ) → channel_up_to 204 line ≡ o → IfSome o (λ k. (1 ≤ k) × (k ≤ 204) × (line ≡ first_line k)) → P
    first None e h =
        let none : GoodLine nothing line → ⊥ = λ q. let r = in_range q.0 q.1 in let found = channel_found 204 q.0 r.0 r.1 (omega arith) in let same = ap (channel_up_to 204) q.2 in cc in
        bad none (rw e)
    first (Some k) e h = f (k, rw (le-leb 1 k h.0, le-leb k 204 h.1), h.2)
next_line (lines n os) line P g f bad =
    by_cases P (is_next (length os) line)
    (λ e.
    let t = next (length os) line e in
    f (last line, t.outcome, t.few, same_true line (slot_line (length os + 1) (last line)) t.text))
    (λ e.
    bad
    (λ q. true≢false (sym (next_is (length os) q.0 q.1 q.2) ∙ ap (is_next (length os)) (sym q.3) ∙ e))
    (rw (tuned_some n os (good n os g).band, slots_are n os, e)))

pub good_plain : (b : Beginning) (line : List ℕ) → GoodLine b line → is_plain line ≡ true
good_plain nothing line q = rw q.2 (first_plain q.0)
good_plain (lines n os) line q = rw q.3 (slot_plain (length os + 1) q.0 q.1)

-- ---- the lines of a text, and the beginning with a line more

pub text_line : (n : ℕ) (os rest : List ℕ) → log_text n os ++ rest ≡ first_line n ++ (10 ∷ (slot_lines 1 os ++ rest))
unfolding log_text
text_line n os rest = append_assoc (first_line n) (10 ∷ slot_lines 1 os) rest

pub slots_line : (k o : ℕ) (os rest : List ℕ) → slot_lines k (o ∷ os) ++ rest ≡ slot_line k o ++ (10 ∷ (slot_lines (k + 1) os ++ rest))
unfolding slot_lines
slots_line k o os rest = append_assoc (slot_line k o) (10 ∷ slot_lines (k + 1) os) rest

slots_snoc : (os : List ℕ) (k j o : ℕ) (rest : List ℕ) → k + length os ≡ j
    → slot_lines k (os ++ (o ∷ [])) ++ rest ≡ slot_lines k os ++ (slot_line j o ++ (10 ∷ rest))
unfolding slot_lines
slots_snoc [] k j o rest e = let z : k ≡ j = omega arith in slots_line k o [] rest ∙ ap (λ (i : ℕ). slot_line i o ++ (10 ∷ rest)) z
slots_snoc (x ∷ os) k j o rest e =
    slots_line k x (os ++ (o ∷ [])) rest ∙ ap (λ (l : List ℕ). slot_line k x ++ (10 ∷ l)) (slots_snoc os (k + 1) j o rest (omega arith))
    ∙ sym (slots_line k x os (slot_line j o ++ (10 ∷ rest)))

pub more_line : (b : Beginning) (line : List ℕ) → is_good b ≡ true → GoodLine b line
    → (c : Beginning) × (is_good c ≡ true) × ((rest : List ℕ) → text_of b ++ (line ++ (10 ∷ rest)) ≡ text_of c ++ rest)
unfolding all_outcomes slot_lines
more_line nothing line g q = (
  lines q.0 [],
  good_is q.0 [] (record { band = q.1; all = refl; few = omega arith }),
  λ rest. ap (λ (l : List ℕ). l ++ (10 ∷ rest)) q.2 ∙ sym (text_line q.0 [] rest),
)
more_line (lines n os) line g q =
    let h = good n os g in
    let o = q.0 in (
      lines n (os ++ (o ∷ [])),
      good_is n (os ++ (o ∷ [])) (record { band = h.band; all = all_snoc os o h.all q.1; few = rw length-append (omega (arith, q.2)) }),
      λ rest.
          ap (λ (l : List ℕ). log_text n os ++ (l ++ (10 ∷ rest))) q.3
          ∙ text_line n os (slot_line (length os + 1) o ++ (10 ∷ rest))
          ∙ ap (λ (l : List ℕ). first_line n ++ (10 ∷ l)) (sym (slots_snoc os 1 (length os + 1) o rest (omega arith)))
          ∙ sym (text_line n (os ++ (o ∷ [])) rest),
    )
