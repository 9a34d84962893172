-- The machine over bytes: a line that is held, a line that is whole, and the rule that every step keeps. Assumes nothing.
use Prim.Native.Nat.{ℕ, suc, ◌+◌, ◌<◌, ◌≤◌}
use mathlib.Core.Path.{◌≡◌, refl, ap, sym, ◌∙◌, subst}
use mathlib.Core.Bool.{Bool, true, false, cond, not, ◌&&◌, ◌||◌, false≢true, and-eq-true_iff}
use mathlib.Core.List.{List, [], ◌∷◌, ◌++◌, append_assoc, append-nil}
use native.Mathlib.Numerals.{add-one}
use native.Mathlib.Omega.{arith}
use lib.ListN.{length, get_or, take, drop, set, replicate, length-append, length-drop, take-append-drop, length-replicate}
use lib.Seq.{drop-cons, take-append_seam, set-append_seam, drop-append_seam, length-take-le}
use lib.Dec.{eqb, ltb}
use borrow.Author.Tests.{lt-ltb, leb-true, le-leb, eqb-true, eqb-false, ltb-true, not-true}
use Rattle.std.specs.Prelude.{Option, Some, None, IfSome}
use Rattle.text.specs.Fields.{same_as}
use Rattle.text.proofs.Laws.{same_refl, same_true}
use Rattle.answers.specs.Rules.{unless}
use Rattle.logs.specs.declared.Counts.{Counts}
use Rattle.logs.specs.declared.Reader.{Reader}
use Rattle.logs.specs.declared.Phase.{Phase}
use Rattle.logs.specs.declared.Phase.TheVariants.{Open, Refused, Ended}
use Rattle.logs.specs.Log.{is_sound, judged}
use Rattle.logs.specs.Reader.{ToldFed, between, fresh_reader, after_line, open_step, is_open, after_byte, run, bad_line, fine, after_piece, after_end, is_plain, is_held, is_holding, is_before, is_reader}
use Rattle.logs.proofs.Lists.{by_cases}
use Rattle.logs.proofs.Plain.{plain_none, plain_append, plain_one, plain_tail}
use Rattle.logs.proofs.Outcomes.{judged_before}

-- the line so far
abbrev pub line_of : Reader → List ℕ
line_of s = take s.length s.held

pub run_none : (s : Reader) → run s [] ≡ s
unfolding run
run_none s = refl

pub run_cons : (s : Reader) (b : ℕ) (bs : List ℕ) → run s (b ∷ bs) ≡ run (after_byte s b) bs
unfolding run
run_cons s b bs = refl

-- a log may be cut anywhere
pub run_append : (s : Reader) (a b : List ℕ) → run s (a ++ b) ≡ run (run s a) b
unfolding run
run_append s [] b = refl
run_append s (x ∷ a) b = run_append (after_byte s x) a b

abbrev pub zeros : List ℕ
zeros = replicate 63 0

-- an open reader that holds a line
abbrev pub held_of : Counts → List ℕ → Reader
held_of c l = record { phase = Open; counts = c; held = l ++ drop (length l) zeros; length = length l }

pub same_reader : (a b : Reader) → a.phase ≡ b.phase → a.counts ≡ b.counts → a.held ≡ b.held → a.length ≡ b.length → a ≡ b
same_reader a b p q r s = λ i. record { phase = p i; counts = q i; held = r i; length = s i }

step_hold : (c : Counts) (a : List ℕ) (x : ℕ) → eqb x 10 ≡ false → length a < 63 → after_byte (held_of c a) x ≡ held_of c (a ++ (x ∷ []))
unfolding after_byte open_step
step_hold c a x e h =
    let k : length a < length zeros = h in
    let d = drop-cons zeros (length a) 0 k in
    let n : length (a ++ (x ∷ [])) ≡ suc (length a) = length-append a (x ∷ []) ∙ add-one (length a) in
    rw (e, lt-ltb (length a) 63 h)
    (same_reader _ _ refl refl
    (ap (λ (r : List ℕ). set (a ++ r) (length a) x) d ∙ set-append_seam a (get_or zeros (length a) 0) (drop (suc (length a)) zeros) x
    ∙ sym (append_assoc a (x ∷ []) (drop (suc (length a)) zeros))
    ∙ ap (λ (j : ℕ). (a ++ (x ∷ [])) ++ drop j zeros) (sym n))
    (add-one (length a) ∙ sym n))

-- the bytes of a line are held
pub run_hold : (l : List ℕ) (c : Counts) (a : List ℕ) → is_plain l ≡ true → length a + length l ≤ 63 → run (held_of c a) l ≡ held_of c (a ++ l)
run_hold [] c a p h = run_none (held_of c a) ∙ ap (held_of c) (sym (append-nil a))
run_hold (x ∷ l) c a p h =
    let t = plain_tail x l p in
    let k : length (a ++ (x ∷ [])) + length l ≤ 63 = rw length-append (omega arith) in
    run_cons (held_of c a) x l ∙ ap (λ (s : Reader). run s l) (step_hold c a x (not-true (eqb x 10) t.0) (omega arith))
    ∙ run_hold l c (a ++ (x ∷ [])) t.1 k ∙ ap (held_of c) (append_assoc a (x ∷ []) l)

held_line : (c : Counts) (l : List ℕ) → line_of (held_of c l) ≡ l
held_line c l = take-append_seam l (drop (length l) zeros)

-- and judged at its line feed
pub step_feed : (c : Counts) (l : List ℕ) → after_byte (held_of c l) 10 ≡ after_line c (judged c l)
unfolding after_byte open_step
step_feed c l = ap (λ (k : List ℕ). after_line c (judged c k)) (held_line c l)

pub line_run : (c : Counts) (l rest : List ℕ) → is_plain l ≡ true → length l ≤ 63
    → run (between Open c) (l ++ (10 ∷ rest)) ≡ run (after_line c (judged c l)) rest
line_run c l rest p h =
    run_append (held_of c []) l (10 ∷ rest) ∙ ap (λ (s : Reader). run s (10 ∷ rest)) (run_hold l c [] p (omega arith))
    ∙ run_cons (held_of c l) 10 rest ∙ ap (λ (s : Reader). run s rest) (step_feed c l)

-- after a refusal nothing changes
pub run_shut : (s : Reader) (l : List ℕ) → is_open s.phase ≡ false → run s l ≡ s
unfolding run after_byte
run_shut s [] h = refl
run_shut s (b ∷ bs) h = rw h (run_shut s bs h)

-- ---- the rule

-- what `is_reader` tests
pub record Ruled (s : Reader) : Type 0 where
  pub holding : is_holding s.phase s.length ≡ true
  pub plain : is_plain (line_of s) ≡ true
  pub clear : drop s.length s.held ≡ drop s.length zeros
  pub before : is_before s.counts ≡ true

pub ruled : (s : Reader) → is_reader s ≡ true → Ruled s
unfolding is_reader is_held
ruled s e =
    let a = (and-eq-true_iff (is_holding s.phase s.length && is_held s.held s.length) (is_before s.counts)).0 e in
    let b = (and-eq-true_iff (is_holding s.phase s.length) (is_held s.held s.length)).0 a.0 in
    let d = (and-eq-true_iff (is_plain (line_of s)) (same_as (drop s.length s.held) (drop s.length zeros))).0 b.1 in
    record { holding = b.0; plain = d.0; clear = same_true _ _ d.1; before = a.1 }

ruled_is : (s : Reader) → Ruled s → is_reader s ≡ true
unfolding is_reader is_held
ruled_is s r =
    rw (r.holding, r.plain, r.clear, same_refl (drop s.length zeros)) r.before

pub between_ruled : (p : Phase) (c : Counts) → is_holding p 0 ≡ true → is_before c ≡ true → is_reader (between p c) ≡ true
between_ruled p c h b = ruled_is (between p c) (record { holding = h; plain = plain_none; clear = refl; before = b })

pub held_ruled : (c : Counts) (l : List ℕ) → is_before c ≡ true → is_plain l ≡ true → length l ≤ 63 → is_reader (held_of c l) ≡ true
held_ruled c l b p h =
    ruled_is (held_of c l)
    (record {
      holding = le-leb (length l) 63 h;
      plain = rw (held_line c l) p;
      clear = drop-append_seam l (drop (length l) zeros);
      before = b;
    })

pub small : (p : Phase) (n : ℕ) → is_holding p n ≡ true → n ≤ 63
small Open n h = leb-true n 63 h
small Refused n h = omega (arith, eqb-true n 0 h)
small Ended n h = absurd (false≢true h)

pub reader_small : (s : Reader) → is_reader s ≡ true → s.length ≤ 63
reader_small s e = small s.phase s.length (ruled s e).holding

pub opened : (p : Phase) → is_open p ≡ true → p ≡ Open
opened Open e = refl
opened Refused e = absurd (false≢true e)
opened Ended e = absurd (false≢true e)

-- an open reader is one that holds a line
pub open_held : (s : Reader) → is_reader s ≡ true → length s.held ≡ 63 → is_open s.phase ≡ true → s ≡ held_of s.counts (line_of s)
open_held s e f o =
    let r = ruled s e in
    let n : length (line_of s) ≡ s.length = length-take-le s.length s.held (omega (arith, reader_small s e)) in
    same_reader s (held_of s.counts (line_of s)) (opened s.phase o) refl
    (sym (take-append-drop s.length s.held) ∙ ap (λ (k : List ℕ). line_of s ++ k) (r.clear ∙ ap (λ (j : ℕ). drop j zeros) (sym n)))
    (sym n)

-- a reader within its rule, with the room of its line
abbrev pub Kept : Reader → Type 0
Kept s = (is_reader s ≡ true) × (length s.held ≡ 63)

pub after_kept : (c : Counts) (l : List ℕ) → is_before c ≡ true → Kept (after_line c (judged c l))
after_kept c l b = judged_kept (judged c l) (judged_before c l b)
  where
    judged_kept : (o : Option Counts) → IfSome o (λ d. is_before d ≡ true) → Kept (after_line c o)
    judged_kept None h = (between_ruled Refused c refl b, refl)
    judged_kept (Some d) h = (between_ruled Open d refl h, refl)

held_full : (c : Counts) (l : List ℕ) → length l ≤ 63 → length (held_of c l).held ≡ 63
held_full c l h = rw (length-append, length-drop) (omega (arith, length-replicate {A = ℕ} 63 0))

step_over : (c : Counts) (l : List ℕ) (b : ℕ) → eqb b 10 ≡ false → ltb (length l) 63 ≡ false → after_byte (held_of c l) b ≡ between Refused c
unfolding after_byte open_step
step_over c l b e f = rw (e, f)

-- a 64th byte that is no line feed is refused, whatever follows
pub over_run : (l : List ℕ) (c : Counts) (a rest : List ℕ) → is_plain l ≡ true → 63 < length a + length l → length a ≤ 63
    → run (held_of c a) (l ++ rest) ≡ between Refused c
over_run [] c a rest p h k = absurd (omega arith)
over_run (x ∷ l) c a rest p h k =
    let t = plain_tail x l p in
    let e = not-true (eqb x 10) t.0 in
    run_cons (held_of c a) x (l ++ rest)
    ∙ by_cases _ (ltb (length a) 63)
    (λ f.
    let g = ltb-true (length a) 63 f in
    let n : length (a ++ (x ∷ [])) ≡ length a + 1 = length-append a (x ∷ []) in
    ap (λ (s : Reader). run s (l ++ rest)) (step_hold c a x e g) ∙ over_run l c (a ++ (x ∷ [])) rest t.1 (omega arith) (omega arith))
    (λ f. ap (λ (s : Reader). run s (l ++ rest)) (step_over c a x e f) ∙ run_shut (between Refused c) (l ++ rest) refl)

step_held : (c : Counts) (l : List ℕ) (b : ℕ) → is_before c ≡ true → is_plain l ≡ true → length l ≤ 63 → Kept (after_byte (held_of c l) b)
step_held c l b k p h =
    by_cases _ (eqb b 10)
    (λ e. subst (λ (x : ℕ). Kept (after_byte (held_of c l) x)) (sym (eqb-true b 10 e)) (rw (step_feed c l) (after_kept c l k)))
    (λ e. by_cases _ (ltb (length l) 63)
    (λ f.
    let g = ltb-true (length l) 63 f in
    let m : length (l ++ (b ∷ [])) ≤ 63 = rw length-append (omega arith) in
    rw (step_hold c l b e g)
    (held_ruled c (l ++ (b ∷ [])) k (plain_append l (b ∷ []) p (plain_one b (eqb-false b 10 e))) m, held_full c (l ++ (b ∷ [])) m))
    (λ f. rw (step_over c l b e f) (between_ruled Refused c refl k, refl)))

pub step_kept : (s : Reader) (b : ℕ) → Kept s → Kept (after_byte s b)
unfolding after_byte
step_kept s b k =
    by_cases _ (is_open s.phase)
    (λ o.
    let r = ruled s k.0 in
    let n : length (line_of s) ≤ 63 = rw (length-take-le s.length s.held (omega (arith, reader_small s k.0, k.1))) (reader_small s k.0) in
    subst (λ (t : Reader). Kept (after_byte t b)) (sym (open_held s k.0 k.1 o)) (step_held s.counts (line_of s) b r.before r.plain n))
    (λ o. rw o k)

-- THE RULE HOLDS OF EVERY READER THAT PIECES LEAD TO
pub run_kept : (s : Reader) (l : List ℕ) → Kept s → Kept (run s l)
unfolding run
run_kept s [] k = k
run_kept s (b ∷ bs) k = run_kept (after_byte s b) bs (step_kept s b k)

pub fresh_kept : Kept fresh_reader
unfolding is_reader is_held is_plain is_before is_sound
fresh_kept = (refl, refl)

-- ---- what is told

shut : (p : Phase) (n : ℕ) → is_open p ≡ false → is_holding p n ≡ true → (p ≡ Refused) × (n ≡ 0)
shut Open n o h = absurd (false≢true (sym o))
shut Refused n o h = (refl, eqb-true n 0 h)
shut Ended n o h = absurd (false≢true h)

-- a refused reader holds nothing
pub refused_between : (s : Reader) → Kept s → is_open s.phase ≡ false → s ≡ between Refused s.counts
refused_between s k o =
    let r = ruled s k.0 in
    let e = shut s.phase s.length o r.holding in
    same_reader s (between Refused s.counts) e.0 refl (subst (λ (n : ℕ). drop n s.held ≡ drop n zeros) e.1 r.clear) e.1

-- after a piece
pub fed_refused : (s : Reader) → Kept s → is_open s.phase ≡ false → after_piece s ≡ bad_line (between Refused s.counts)
fed_refused s k o = ap after_piece (refused_between s k o)

pub fed_open : (s : Reader) → is_open s.phase ≡ true → after_piece s ≡ fine s
fed_open s o = rw o

either : (o a b : Bool) (x y : ToldFed) → unless (o && not a && b) x y ≡ cond (not o || a || not b) x y
either false a b x y = refl
either true true b x y = refl
either true false true x y = refl
either true false false x y = refl

-- and at the end
pub ended : (s : Reader)
    → after_end s ≡ cond (not (is_open s.phase) || eqb s.counts.channel 0 || not (eqb s.length 0)) (bad_line (between Refused s.counts)) (fine (between Ended s.counts))
ended s = either (is_open s.phase) (eqb s.counts.channel 0) (eqb s.length 0) _ _
