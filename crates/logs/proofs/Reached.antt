-- The rule of a reader admits exactly the readers that pieces lead to. Assumes nothing.
use Prim.Native.Nat.{ℕ}
use mathlib.Core.Path.{◌≡◌, refl, ap, sym, ◌∙◌, subst}
use mathlib.Core.Bool.{Bool, true, false, cond, and-eq-true_iff}
use mathlib.Core.List.{List, [], ◌∷◌, ◌++◌, append_assoc, append-nil, map, flatten}
use native.Mathlib.Omega.{arith}
use lib.ListN.{length, replicate}
use lib.Seq.{length-take-le}
use lib.Dec.{eqb}
use lib.Pow.{are_bytes}
use borrow.Author.Tests.{eqb-true}
use Rattle.answers.specs.Numbers.{Paper, accepted, refused, paper}
use Rattle.answers.specs.Rules.{unless, state_left}
use Rattle.std.specs.Prelude.{Ok, Err}
use Rattle.answers.specs.declared.Refusal.TheVariants.{BadLine}
use Rattle.answers.proofs.Determined.{refused_accepted}
use Rattle.answers.proofs.Rules.{unless_elim}
use Rattle.answers.proofs.Bytes.{bytes_append, bytes_parts}
use Rattle.band.specs.Band.{is_channel}
use Rattle.logs.specs.declared.Counts.{Counts}
use Rattle.logs.specs.declared.Reader.{Reader}
use Rattle.logs.specs.declared.Fed.{Fed}
use Rattle.logs.specs.declared.Phase.TheVariants.{Refused, Ended}
use Rattle.logs.specs.Log.{tuned, is_sound}
use Rattle.logs.specs.Reader.{ToldFed, told_fed, between, fresh_reader, is_open, run, line_number, bad_line, fine, is_whole, whole_of, read_of, is_plain, is_before, is_reader, no_reader, fed_of, end_of}
use Rattle.logs.specs.Beginning.{Beginning, nothing, lines, text_of, is_good, counts_of}
use Rattle.logs.specs.Pieces.{Call, feed, end, call_of, Calls, Always, Reached, SixtyThreeBytes}
use Rattle.logs.proofs.Lists.{by_cases}
use Rattle.logs.proofs.Sound.{sound}
use Rattle.logs.proofs.Runs.{run_none, run_hold, over_run, held_of, line_of, ruled, reader_small, open_held, refused_between, Kept, run_kept, fresh_kept}
use Rattle.logs.proofs.Beginnings.{good_is, begin_run}
use Rattle.logs.proofs.Bytes.{begin_bytes}
use Rattle.logs.proofs.Exact.{no_slots, outcomes_of}
use Rattle.logs.proofs.Pieces.{taken, fed_reader, end_tells}
use Rattle.logs.proofs.Later.{outside_stays, told_apart}

-- ---- pieces lead where their bytes lead

fed_run : (before : List ℕ) (pieces : List (List ℕ)) (outcomes : List Fed) → Calls (run fresh_reader before) (map feed pieces) outcomes
    → state_left (λ r. r.reader) (run fresh_reader before) outcomes ≡ run fresh_reader (before ++ flatten pieces)
unfolding flatten
fed_run before [] [] r = ap (run fresh_reader) (sym (append-nil before))
fed_run before [] (o ∷ outcomes) r = absurd r
fed_run before (piece ∷ pieces) [] r = absurd r
fed_run before (piece ∷ pieces) (o ∷ outcomes) r =
    let n : o.reader ≡ run fresh_reader (before ++ piece) = ap (λ (t : ToldFed). t.reader) (r.0 ∙ taken before piece) ∙ fed_reader (run fresh_reader (before ++ piece)) in
    ap (λ (s : Reader). state_left (λ r. r.reader) s outcomes) n
    ∙ fed_run (before ++ piece) pieces outcomes (subst (λ (s : Reader). Calls s (map feed pieces) outcomes) n r.1)
    ∙ ap (run fresh_reader) (append_assoc before piece (flatten pieces))

reached_run : (s : Reader) (r : Reached s) → run fresh_reader (flatten r.pieces) ≡ s
reached_run s r =
    let n = run_none fresh_reader in
    sym (fed_run [] r.pieces r.outcomes (subst (λ (s : Reader). Calls s (map feed r.pieces) r.outcomes) (sym n) r.given))
    ∙ ap (λ (s : Reader). state_left (λ r. r.reader) s r.outcomes) n ∙ r.left

-- bytes in one piece
outcome_of : Bool → Reader → Fed
outcome_of true s = record { answer = Ok tt; line = 0; reader = s }
outcome_of false s = record { answer = Err BadLine; line = line_number s.counts; reader = s }

outcome_told : (b : Bool) (s : Reader) → told_fed (outcome_of b s) ≡ unless b (bad_line s) (fine s)
unfolding outcome_of
outcome_told true s = refl
outcome_told false s = refl

outcome_left : (b : Bool) (s : Reader) → (outcome_of b s).reader ≡ s
unfolding outcome_of
outcome_left true s = refl
outcome_left false s = refl

reached_by : (bytes : List ℕ) → are_bytes bytes ≡ true → Reached (run fresh_reader bytes)
unfolding flatten
reached_by bytes small =
    let s = run fresh_reader bytes in
    let o = is_open s.phase in
    record {
      pieces = bytes ∷ [];
      small = ap are_bytes (append-nil bytes) ∙ small;
      outcomes = outcome_of o s ∷ [];
      given = (outcome_told o s ∙ sym (taken [] bytes) ∙ ap (λ (r : Reader). fed_of r bytes) (run_none fresh_reader), tt);
      left = outcome_left o s;
    }

-- the reader before the first byte, and the one that a piece more leads to
pub reached_fresh : Reached fresh_reader
reached_fresh = subst Reached (run_none fresh_reader) (reached_by [] refl)

pub reached_next : (s : Reader) (piece : List ℕ) (r : Fed) → Reached s → are_bytes piece ≡ true → told_fed r ≡ fed_of s piece → Reached r.reader
reached_next s piece r h small e =
    let before = flatten h.pieces in
    let n : run fresh_reader (before ++ piece) ≡ r.reader
    = sym (fed_reader (run fresh_reader (before ++ piece))) ∙ ap (λ (t : ToldFed). t.reader) (sym (taken before piece))
    ∙ ap (λ (s : Reader). (fed_of s piece).reader) (reached_run s h) ∙ ap (λ (t : ToldFed). t.reader) (sym e) in
    subst Reached n (reached_by (before ++ piece) (bytes_append before piece ∙ rw (h.small, small)))

-- and what the end then tells
pub reached_end : (s : Reader) (h : Reached s) → whole_of (end_of s) ≡ read_of (flatten h.pieces)
reached_end s h = ap (λ (s : Reader). whole_of (end_of s)) (sym (reached_run s h)) ∙ end_tells (flatten h.pieces)

-- EVERY READER THAT PIECES LEAD TO KEEPS THE RULE
pub reached_ruled : (s : Reader) → Reached s → is_reader s ≡ true
reached_ruled s h = subst (λ (s : Reader). is_reader s ≡ true) (reached_run s h) (run_kept fresh_reader (flatten h.pieces) fresh_kept).0

-- ---- counts that may stand before a line are those of a good beginning

record Begins (c : Counts) : Type 0 where
  beginning : Beginning
  good : is_good beginning ≡ true
  counts : counts_of beginning ≡ c

begins : (c : Counts) → is_before c ≡ true → Begins c
unfolding is_before
begins c e =
    let a = (and-eq-true_iff (is_sound c) (cond (eqb c.channel 0) (eqb c.slots 0) (is_channel c.channel))).0 e in
    let s = sound c a.0 in
    by_cases (Begins c) (eqb c.channel 0)
    (λ z.
    record {
      beginning = nothing;
      good = refl;
      counts = ap tuned (sym (eqb-true c.channel 0 z)) ∙ no_slots c (eqb-true c.slots 0 (rw z at a.1)) s;
    })
    (λ z.
    let g = outcomes_of c.slots c refl s in
    record {
      beginning = lines c.channel g.outcomes;
      good = good_is c.channel g.outcomes (record { band = rw z at a.1; all = g.all; few = omega (arith, g.long, s.few) });
      counts = g.counts;
    })

-- ---- to every reader that keeps the rule bytes lead

-- to an open one a good beginning and the line so far
open_reached : (s : Reader) → Kept s → are_bytes s.held ≡ true → is_open s.phase ≡ true → Reached s
open_reached s k small o =
    let r = ruled s k.0 in
    let g = begins s.counts r.before in
    let n : length (line_of s) ≡ s.length = length-take-le s.length s.held (omega (arith, reader_small s k.0, k.1)) in
    subst Reached
    (begin_run g.beginning (line_of s) g.good ∙ run_hold (line_of s) (counts_of g.beginning) [] r.plain (omega (arith, n, reader_small s k.0))
    ∙ ap (λ (c : Counts). held_of c (line_of s)) g.counts ∙ sym (open_held s k.0 k.1 o))
    (reached_by (text_of g.beginning ++ line_of s)
    (bytes_append (text_of g.beginning) (line_of s) ∙ rw (begin_bytes g.beginning g.good, (bytes_parts s.length s.held small).0)))

-- to a refused one a good beginning and 64 bytes without a line feed
abbrev too_long : List ℕ
too_long = replicate 64 0

too_long_plain : is_plain too_long ≡ true
unfolding is_plain
too_long_plain = refl

refused_reached : (s : Reader) → Kept s → is_open s.phase ≡ false → Reached s
refused_reached s k o =
    let g = begins s.counts (ruled s k.0).before in
    subst Reached
    (begin_run g.beginning too_long g.good ∙ over_run too_long (counts_of g.beginning) [] [] too_long_plain (omega arith) (omega arith)
    ∙ ap (between Refused) g.counts ∙ sym (refused_between s k o))
    (reached_by (text_of g.beginning ++ too_long) (bytes_append (text_of g.beginning) too_long ∙ rw (begin_bytes g.beginning g.good)))

-- TO EVERY READER THAT KEEPS THE RULE PIECES LEAD
pub ruled_reached : (s : Reader) → SixtyThreeBytes s.held → is_reader s ≡ true → Reached s
ruled_reached s h e = by_cases (Reached s) (is_open s.phase) (open_reached s (e, h.count) h.small) (refused_reached s (e, h.count))

-- ---- so 11 is for the others

-- A READER THAT NO PIECES LEAD TO GETS 11 AND STAYS AS IT IS
pub unreached_stays : (s : Reader) → SixtyThreeBytes s.held → (Reached s → ⊥) → Always s (no_reader s)
unreached_stays s h n = by_cases _ (is_reader s) (λ e. absurd (n (ruled_reached s h e))) (outside_stays s)

-- within the rule a call is accepted, or refused with 12
inside_answers : (P : Paper → Type 0) (s : Reader) (call : Call) → is_reader s ≡ true → P accepted → P (refused 12) → P (call_of s call).answer
unfolding fed_of end_of
inside_answers P s (feed piece) k a b =
    let t = run s piece in rw k (unless_elim (λ (t : ToldFed). P t.answer) (is_open t.phase) (bad_line t) (fine t) b (λ o. a))
inside_answers P s end k a b =
    rw k
    (unless_elim (λ (t : ToldFed). P t.answer) (is_whole s)
    (bad_line (between Refused s.counts)) (fine (between Ended s.counts)) b (λ o. a))

-- AND ONE THAT PIECES LEAD TO NEVER DOES
pub reached_taken : (s : Reader) (call : Call) (r : Fed) → Reached s → told_fed r ≡ call_of s call → paper r.answer ≡ refused 11 → ⊥
reached_taken s call r h e a =
    inside_answers (λ p. p ≡ refused 11 → ⊥) s call (reached_ruled s h) (λ z. refused_accepted 11 (sym z)) (λ z. told_apart (sym z)) (ap (λ (t : ToldFed). t.answer) (sym e) ∙ a)
