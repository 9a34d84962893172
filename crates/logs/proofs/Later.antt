-- What every later call tells: after a refusal, after an accepted end, and of a reader outside its rule. Assumes nothing.
use Prim.Native.Nat.{ℕ}
use mathlib.Core.Path.{◌≡◌, refl, ap, sym, ◌∙◌, subst}
use mathlib.Core.Bool.{true, false}
use mathlib.Core.List.{List, [], ◌∷◌}
use native.Mathlib.Omega.{arith}
use lib.ListN.{length, replicate}
use Rattle.answers.specs.Numbers.{accepted, refused, paper}
use Rattle.answers.proofs.Determined.{refused_accepted, refused_once}
use Rattle.answers.proofs.Rules.{unless_passed}
use Rattle.answers.proofs.Runs.{run_of, run_told}
use Rattle.logs.specs.declared.Counts.{Counts}
use Rattle.logs.specs.declared.Reader.{Reader}
use Rattle.logs.specs.declared.Fed.{Fed}
use Rattle.logs.specs.declared.Phase.TheVariants.{Refused, Ended}
use Rattle.logs.specs.Reader.{ToldFed, told_fed, between, is_open, run, bad_line, after_piece, is_whole, after_end, is_before, is_reader, no_reader, fed_of, end_of}
use Rattle.logs.specs.Pieces.{Call, feed, end, call_of, Always, SixtyThreeBytes}
use Rattle.logs.proofs.Lists.{by_cases}
use Rattle.logs.proofs.Runs.{run_shut, ruled, between_ruled, run_kept, fed_refused}

-- calls that tell one thing, and leave the reader
always : (s : Reader) (told : ToldFed) → told.reader ≡ s → ((call : Call) → call_of s call ≡ told) → Always s told
always s told k f calls outcomes r = run_told call_of (λ t. t.reader) told_fed s calls outcomes r ∙ same calls
  where
    same : (calls : List Call) → run_of call_of (λ t. t.reader) s calls ≡ replicate (length calls) told
    same [] = refl
    same (call ∷ calls) =
        let here = f call in
        let behind = ap (λ (t : ToldFed). run_of call_of (λ t. t.reader) t.reader calls) here ∙ ap (λ (r : Reader). run_of call_of (λ t. t.reader) r calls) k ∙ same calls in
        λ i. here i ∷ behind i

-- ---- 11

-- OUTSIDE ITS RULE A READER GETS 11 AND STAYS AS IT IS
pub outside_stays : (s : Reader) → is_reader s ≡ false → Always s (no_reader s)
unfolding fed_of end_of
outside_stays s k = always s (no_reader s) refl each
  where
    each : (call : Call) → call_of s call ≡ no_reader s
    each (feed piece) = rw k
    each end = rw k

ended_outside : (c : Counts) → is_reader (between Ended c) ≡ false
unfolding is_reader
ended_outside c = refl

-- ---- after a refusal

-- told that a line is bad, with counts that may stand before it
record Bad (t : ToldFed) : Type 0 where
  counts : Counts
  before : is_before counts ≡ true
  told : t ≡ bad_line (between Refused counts)

-- of 11 and 12 neither is the other
pub told_apart : refused 11 ≡ refused 12 → ⊥
told_apart e = omega (arith, refused_once 11 12 e)

bad_piece : (s : Reader) (piece : List ℕ) → length s.held ≡ 63 → (fed_of s piece).answer ≡ refused 12 → Bad (fed_of s piece)
unfolding fed_of
bad_piece s piece n e =
    let p = unless_passed (λ (t : ToldFed). t.answer ≡ refused 12) (is_reader s) (no_reader s) (after_piece (run s piece)) told_apart e in
    let k = run_kept s piece (p.0, n) in
    let r = run s piece in
    rw p.0
    (by_cases (Bad (after_piece r)) (is_open r.phase)
    (λ o. absurd (refused_accepted 12 (sym (rw o at p.1))))
    (λ o. record { counts = r.counts; before = (ruled r k.0).before; told = fed_refused r k o }))

bad_end : (s : Reader) → (end_of s).answer ≡ refused 12 → Bad (end_of s)
unfolding end_of
bad_end s e =
    let p = unless_passed (λ (t : ToldFed). t.answer ≡ refused 12) (is_reader s) (no_reader s) (after_end s) told_apart e in
    rw p.0
    (by_cases (Bad (after_end s)) (is_whole s)
    (λ t. absurd (refused_accepted 12 (sym (rw t at p.1))))
    (λ t. record { counts = s.counts; before = (ruled s p.0).before; told = rw t }))

bad_call : (s : Reader) (call : Call) → length s.held ≡ 63 → (call_of s call).answer ≡ refused 12 → Bad (call_of s call)
bad_call s (feed piece) n e = bad_piece s piece n e
bad_call s end n e = bad_end s e

shut_always : (c : Counts) → is_before c ≡ true → Always (between Refused c) (bad_line (between Refused c))
unfolding fed_of end_of
shut_always c b = always (between Refused c) (bad_line (between Refused c)) refl each
  where
    each : (call : Call) → call_of (between Refused c) call ≡ bad_line (between Refused c)
    each (feed piece) = rw (between_ruled Refused c refl b) (ap after_piece (run_shut (between Refused c) piece refl))
    each end = rw (between_ruled Refused c refl b)

-- AFTER A REFUSAL EVERY CALL GIVES THE SAME REFUSAL, LINE, COUNTS AND READER
pub refused_stays : (s : Reader) (call : Call) (r : Fed) → SixtyThreeBytes s.held → told_fed r ≡ call_of s call → paper r.answer ≡ refused 12
    → Always r.reader (told_fed r)
refused_stays s call r h e a =
    let b = bad_call s call h.count (ap (λ (t : ToldFed). t.answer) (sym e) ∙ a) in
    subst (λ (t : ToldFed). Always t.reader t) (sym (e ∙ b.told)) (shut_always b.counts b.before)

-- ---- after an accepted end

-- AFTER AN ACCEPTED END EVERY CALL GIVES 11 AND CHANGES NOTHING
pub ended_stays : (s : Reader) (r : Fed) → told_fed r ≡ end_of s → paper r.answer ≡ accepted → Always r.reader (no_reader r.reader)
unfolding end_of
ended_stays s r e a =
    let p = unless_passed (λ (t : ToldFed). t.answer ≡ accepted) (is_reader s) (no_reader s) (after_end s) (refused_accepted 11) (ap (λ (t : ToldFed). t.answer) (sym e) ∙ a) in
    by_cases _ (is_whole s)
    (λ t.
    let k : r.reader ≡ between Ended s.counts = ap (λ (t : ToldFed). t.reader) e ∙ rw (p.0, t) in
    subst (λ (n : Reader). Always n (no_reader n)) (sym k) (outside_stays (between Ended s.counts) (ended_outside s.counts)))
    (λ t. absurd (refused_accepted 12 (rw t at p.1)))
