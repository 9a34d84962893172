-- A log in pieces: each call tells what `read` of the whole has it tell. Assumes nothing.
use Prim.Native.Nat.{ℕ, zero, suc, ◌<◌, ◌≤◌}
use mathlib.Core.Path.{◌≡◌, refl, ap, sym, ◌∙◌}
use mathlib.Core.Bool.{true, false, true≢false}
use mathlib.Core.List.{List, [], ◌∷◌, ◌++◌, append_assoc, append-nil, map, map-map, flatten}
use native.Mathlib.Omega.{arith}
use lib.ListN.{length, get_or, length-append}
use lib.Dec.{eqb, leb}
use borrow.Author.Tests.{leb-true, leb-false, eqb-true, eqb-false}
use Rattle.answers.proofs.Runs.{run_of, run_told}
use Rattle.answers.specs.Numbers.{accepted}
use Rattle.logs.specs.declared.Counts.{Counts}
use Rattle.logs.specs.declared.Reader.{Reader}
use Rattle.logs.specs.declared.Fed.{Fed}
use Rattle.logs.specs.declared.Phase.TheVariants.{Refused}
use Rattle.logs.specs.Reader.{ToldLog, ToldFed, told_fed, between, fresh_reader, is_open, run, after_piece, is_whole, after_end, whole_of, read_of, is_plain, fed_of, end_of}
use Rattle.logs.specs.Beginning.{Beginning, text_of, is_good, counts_of, Stops}
use Rattle.logs.specs.Pieces.{call_of, Calls, in_pieces, judging_byte, judged_at, piece_tells, all_tell, ToldInPieces}
use Rattle.logs.proofs.Lists.{by_cases, prefix}
use Rattle.logs.proofs.Plain.{plain_one}
use Rattle.logs.proofs.Runs.{run_none, run_cons, run_append, run_hold, step_feed, run_shut, over_run, run_kept, fresh_kept, held_of, fed_open}
use Rattle.logs.proofs.Beginnings.{begin_run, next_line}
use Rattle.logs.proofs.Parted.{parted}

-- ---- where the first line of a rest is judged

-- the bytes before the judging one, and that one with those behind it
record Cut (room : ℕ) (rest : List ℕ) : Type 0 where
  line : List ℕ
  more : List ℕ
  text : rest ≡ line ++ more
  plain : is_plain line ≡ true
  few : length line ≤ room
  place : judging_byte room rest ≡ suc (length line)
  edge : (x : ℕ) (behind : List ℕ) → more ≡ x ∷ behind → eqb x 10 ≡ false → length line ≡ room

cut : (room : ℕ) (rest : List ℕ) → Cut room rest
unfolding judging_byte is_plain
cut zero rest = record { line = []; more = rest; text = refl; plain = refl; few = omega arith; place = refl; edge = λ x behind e f. refl }
cut (suc room) [] =
    record { line = []; more = []; text = refl; plain = refl; few = omega arith; place = refl; edge = λ x behind e f. absurd (omega (arith, ap length e)) }
cut (suc room) (b ∷ rest) =
    by_cases (Cut (suc room) (b ∷ rest)) (eqb b 10)
    (λ t.
    record {
      line = [];
      more = b ∷ rest;
      text = refl;
      plain = refl;
      few = omega arith;
      place = rw t;
      edge = λ x behind e f. absurd (true≢false (sym t ∙ ap (λ (l : List ℕ). eqb (get_or l 0 0) 10) e ∙ f));
    })
    (λ t.
    let c = cut room rest in
    record {
      line = b ∷ c.line;
      more = c.more;
      text = ap (λ (l : List ℕ). b ∷ l) c.text;
      plain = rw t c.plain;
      few = omega (arith, c.few);
      place = rw t (ap suc c.place);
      edge = λ x behind e f. ap suc (c.edge x behind e f);
    })

-- ---- the machine up to that byte, and from it on

-- before it the line is held
held_run : (b : Beginning) (rest : List ℕ) (c : Cut 63 rest) → is_good b ≡ true → run fresh_reader (text_of b ++ c.line) ≡ held_of (counts_of b) c.line
held_run b rest c g = begin_run b c.line g ∙ run_hold c.line (counts_of b) [] c.plain (omega (arith, c.few))

-- at it the line is refused, since no good line starts the rest
shut_run : (b : Beginning) (rest : List ℕ) (c : Cut 63 rest) (x : ℕ) (behind : List ℕ) → is_good b ≡ true → Stops b rest → c.more ≡ x ∷ behind
    → run fresh_reader ((text_of b ++ c.line) ++ (x ∷ [])) ≡ between Refused (counts_of b)
shut_run b rest c x behind g s e =
    run_append fresh_reader (text_of b ++ c.line) (x ∷ []) ∙ ap (λ (r : Reader). run r (x ∷ [])) (held_run b rest c g)
    ∙ by_cases _ (eqb x 10)
    (λ t.
    let z = eqb-true x 10 t in
    let r : rest ≡ c.line ++ (10 ∷ behind) = c.text ∙ ap (λ (l : List ℕ). c.line ++ l) e ∙ ap (λ (y : ℕ). c.line ++ (y ∷ behind)) z in
    next_line b c.line _ g (λ q. absurd (s c.line behind r q))
    (λ n j.
    ap (λ (y : ℕ). run (held_of (counts_of b) c.line) (y ∷ [])) z ∙ run_cons _ 10 [] ∙ run_none _ ∙ step_feed (counts_of b) c.line ∙ j))
    (λ t. over_run (x ∷ []) (counts_of b) c.line [] (plain_one x (eqb-false x 10 t)) (omega (arith, c.edge x behind e t)) c.few)

-- a reader that is open was open before
open_before : (s : Reader) (a b : List ℕ) → is_open (run s (a ++ b)).phase ≡ true → is_open (run s a).phase ≡ true
open_before s a b e =
    by_cases _ (is_open (run s a).phase) (λ o. o)
    (λ o. sym (ap (λ (r : Reader). is_open r.phase) (run_append s a b ∙ run_shut (run s a) b o)) ∙ e)

-- and one that is refused stays as it is
shut_after : (s t : Reader) (a b : List ℕ) → run s a ≡ t → is_open t.phase ≡ false → run s (a ++ b) ≡ t
shut_after s t a b e o = run_append s a b ∙ ap (λ (r : Reader). run r b) e ∙ run_shut t b o

-- ---- what a piece tells, of the bytes so far and those that are still to come

end_counts : (s : Reader) → (after_end s).reader.counts ≡ s.counts
end_counts s = by_cases _ (is_whole s) (λ t. rw t) (λ t. rw t)

-- not judged yet: the line is held, or it has not come so far
told_open : (b : Beginning) (rest so_far later : List ℕ) (c : Cut 63 rest) → is_good b ≡ true → (text_of b ++ c.line) ++ c.more ≡ so_far ++ later
    → length so_far ≤ length (text_of b ++ c.line) → whole_of (after_piece (run fresh_reader so_far)) ≡ record { answer = accepted; line = 0; counts = (read_of so_far).counts }
unfolding read_of
told_open b rest so_far later c g e h =
    let s = run fresh_reader so_far in
    let p = prefix so_far later (text_of b ++ c.line) c.more (sym e) h in
    let o = open_before fresh_reader so_far p.0 (ap (λ (l : List ℕ). is_open (run fresh_reader l).phase) (sym p.1) ∙ ap (λ (r : Reader). is_open r.phase) (held_run b rest c g)) in
    ap whole_of (fed_open s o) ∙ ap (λ (n : Counts). record { answer = accepted; line = 0; counts = n }) (sym (end_counts s))

refused_told : (so_far later : List ℕ) (c : Counts) → run fresh_reader so_far ≡ between Refused c → whole_of (after_piece (run fresh_reader so_far)) ≡ read_of (so_far ++ later)
unfolding read_of
refused_told so_far later c e =
    ap (λ (r : Reader). whole_of (after_piece r)) e ∙ sym (ap (λ (r : Reader). whole_of (after_end r)) (shut_after fresh_reader _ so_far later e refl))

-- judged: what is told of the whole log
told_shut : (b : Beginning) (rest so_far later : List ℕ) (c : Cut 63 rest) (more : List ℕ) → is_good b ≡ true → Stops b rest → c.more ≡ more
    → (text_of b ++ c.line) ++ more ≡ so_far ++ later → length (text_of b ++ c.line) < length so_far
    → whole_of (after_piece (run fresh_reader so_far)) ≡ read_of (so_far ++ later)
told_shut b rest so_far later c [] g s m e h = absurd (omega (arith, ap length e, ap length (append-nil (text_of b ++ c.line)), length-append so_far later))
told_shut b rest so_far later c (x ∷ behind) g s m e h =
    let judged = (text_of b ++ c.line) ++ (x ∷ []) in
    let p = prefix judged behind so_far later (append_assoc (text_of b ++ c.line) (x ∷ []) behind ∙ e) (omega (arith, length-append (text_of b ++ c.line) (x ∷ []))) in
    let r : run fresh_reader so_far ≡ between Refused (counts_of b)
    = ap (run fresh_reader) p.1 ∙ shut_after fresh_reader _ judged p.0 (shut_run b rest c x behind g s m) refl in
    refused_told so_far later (counts_of b) r

piece_tells_lem : (b : Beginning) (rest so_far later : List ℕ) → is_good b ≡ true → Stops b rest → text_of b ++ rest ≡ so_far ++ later
    → whole_of (after_piece (run fresh_reader so_far)) ≡ piece_tells (judged_at b rest) (so_far ++ later) so_far
piece_tells_lem b rest so_far later g s e =
    let c = cut 63 rest in
    let w = append_assoc (text_of b) c.line c.more ∙ ap (λ (l : List ℕ). text_of b ++ l) (sym c.text) ∙ e in
    let n = length-append (text_of b) c.line in
    by_cases _ (leb (judged_at b rest) (length so_far))
    (λ t. told_shut b rest so_far later c c.more g s refl w (omega (arith, leb-true (judged_at b rest) (length so_far) t, c.place)) ∙ rw t)
    (λ t. told_open b rest so_far later c g w (omega (arith, leb-false (judged_at b rest) (length so_far) t, c.place)) ∙ rw t)

-- ---- all calls

pub fed_reader : (s : Reader) → (after_piece s).reader ≡ s
fed_reader s = by_cases _ (is_open s.phase) (λ o. rw o) (λ o. rw o)

-- the reader that some bytes lead to takes a piece, and the end
pub taken : (before piece : List ℕ) → fed_of (run fresh_reader before) piece ≡ after_piece (run fresh_reader (before ++ piece))
unfolding fed_of
taken before piece = rw (run_kept fresh_reader before fresh_kept).0 (ap after_piece (sym (run_append fresh_reader before piece)))

pub end_tells : (log : List ℕ) → whole_of (end_of (run fresh_reader log)) ≡ read_of log
unfolding end_of read_of
end_tells log = rw (run_kept fresh_reader log fresh_kept).0

-- from the reader that the bytes before lead to
all_tell_lem : (b : Beginning) (rest before : List ℕ) (pieces : List (List ℕ)) → is_good b ≡ true → Stops b rest → text_of b ++ rest ≡ before ++ flatten pieces
    → map whole_of (run_of call_of (λ t. t.reader) (run fresh_reader before) (in_pieces pieces)) ≡ all_tell (judged_at b rest) (before ++ flatten pieces) before pieces
unfolding flatten
all_tell_lem b rest before [] g s e = ap (λ (t : ToldLog). t ∷ []) (end_tells before ∙ ap read_of (sym (append-nil before)))
all_tell_lem b rest before (piece ∷ pieces) g s e =
    let a = append_assoc before piece (flatten pieces) in
    let f = taken before piece in
    let n = ap (λ (t : ToldFed). t.reader) f ∙ fed_reader (run fresh_reader (before ++ piece)) in
    let here = ap whole_of f ∙ piece_tells_lem b rest (before ++ piece) (flatten pieces) g s (e ∙ sym a) ∙ ap (λ (l : List ℕ). piece_tells (judged_at b rest) l (before ++ piece)) a in
    let behind = ap (λ (r : Reader). map whole_of (run_of call_of (λ t. t.reader) r (in_pieces pieces))) n
    ∙ all_tell_lem b rest (before ++ piece) pieces g s (e ∙ sym a) ∙ ap (λ (l : List ℕ). all_tell (judged_at b rest) l (before ++ piece) pieces) a in
    λ i. here i ∷ behind i

-- A LOG IN PIECES TELLS, CALL BY CALL, WHAT THE UNCUT LOG TELLS
pub in_pieces_lem : (pieces : List (List ℕ)) (outcomes : List Fed) → Calls fresh_reader (in_pieces pieces) outcomes → ToldInPieces pieces outcomes
in_pieces_lem pieces outcomes r =
    let p = parted (flatten pieces) in
    record {
      parted = p;
      told = sym (map-map whole_of told_fed outcomes) ∙ ap (map whole_of) (run_told call_of (λ t. t.reader) told_fed fresh_reader (in_pieces pieces) outcomes r)
          ∙ ap (λ (s : Reader). map whole_of (run_of call_of (λ t. t.reader) s (in_pieces pieces))) (sym (run_none fresh_reader))
          ∙ all_tell_lem p.beginning p.rest [] pieces p.good p.stops (sym p.text);
    }
