-- The bytes of a piece up to its line feed, behind the line that a reader holds. Assumes nothing.
use Rattle.std.proofs.Common.{◌≡◌, ℕ, ◌+◌, ◌<◌, ◌≤◌, true, List, [], ◌∷◌, ◌++◌, length, take, drop, min, get_or, refl, sym, ap, ◌∙◌, arith, append_assoc, length-append}
use Rattle.std.proofs.lemmas.List.{take-append-drop, take-append-le, drop-append-le, drop-drop, length-take, length-drop, length-take-le}
use Rattle.std.proofs.Math.ListN.{drop_of_length-le}
use Rattle.std.proofs.lemmas.Slice.{take-put_mid}
use borrow.Rule.Slice.PartMut.{put_mid}
use Rattle.logs.specs.declared.Counts.{Counts}
use Rattle.logs.specs.declared.Reader.{Reader}
use Rattle.logs.specs.declared.Phase.TheVariants.{Open, Refused}
use Rattle.logs.specs.Log.{slot_line, counted, judged}
use Rattle.logs.specs.Reader.{between, after_line, is_open, run, is_plain, is_before, is_reader}
use Rattle.logs.proofs.Plain.{plain_append, plain_before, feed_behind}
use Rattle.logs.proofs.Runs.{Kept, line_of, zeros, held_of, same_reader, ruled, reader_small, opened, open_held, held_ruled, run_cons, run_append, run_hold, step_feed, over_run}
use Rattle.logs.proofs.Written.{slot_run, slot_before}
use Rattle.logs.specs.Machine.{NextSlot}
use Rattle.text.specs.Find.{index_of}

-- A piece: a line, and what is left of it, which begins with a line feed where there is any and the line ends before all bytes that
-- were looked at.
pub record Cut (most : ℕ) (piece line rest : List ℕ) : Type 0 where
  pub plain : is_plain line ≡ true
  pub whole : piece ≡ line ++ rest
  pub fed : length line < most → (b : ℕ) (behind : List ℕ) → rest ≡ b ∷ behind → b ≡ 10

fed_near : (near far : List ℕ) (n b : ℕ) (behind : List ℕ) → n ≡ index_of 10 near → n ≤ length near → (n ≡ length near → far ≡ [])
    → drop n near ++ far ≡ b ∷ behind → b ≡ 10
fed_near near far n b behind e h none f = go (drop n near) refl f
  where
    go : (l : List ℕ) → drop n near ≡ l → l ++ far ≡ b ∷ behind → b ≡ 10
    go [] d f = omega (arith, ap length f, ap length (none (omega (arith, h, ap length d, length-drop n near))))
    go (x ∷ y) d f = sym (ap (λ (k : List ℕ). get_or k 0 0) f) ∙ feed_behind near x y (ap (λ (k : ℕ). drop k near) (sym e) ∙ d)

-- So many bytes of a piece are looked at for its line feed.
pub cut : (piece line rest : List ℕ) (most j n : ℕ) → j ≡ min (length piece) most → n ≡ index_of 10 (take j piece) → n ≤ length (take j piece)
    → line ≡ take n piece → rest ≡ drop n piece → Cut most piece line rest
cut piece line rest most j n k e h l r =
    let near = take j piece in
    let far = drop j piece in
    let is : piece ≡ near ++ far = sym (take-append-drop j piece) in
    record {
      plain = ap is_plain (l ∙ ap (take n) is ∙ take-append-le n near far h ∙ ap (λ (i : ℕ). take i near) e) ∙ plain_before near;
      whole = sym (take-append-drop n piece) ∙ rw (l, r);
      fed = λ few b behind f.
          fed_near near far n b behind e h
          (λ z. drop_of_length-le piece (omega (arith, k, z, few, length-take j piece, ap length l, length-take n piece)))
          (sym (drop-append-le n near far h) ∙ ap (drop n) (sym is) ∙ sym r ∙ f);
    }

line_small : (s : Reader) → Kept s → length (line_of s) ≡ s.length
line_small s k = length-take-le s.length s.held (omega (arith, reader_small s k.0, k.1))

-- The bytes of the line are held behind those held so far,
pub held_more : (s : Reader) → Kept s → is_open s.phase ≡ true → (line part : List ℕ) (m k : ℕ) → part ≡ line → m ≡ s.length + length line → k ≡ length line
    → record { phase = s.phase; counts = s.counts; held = put_mid s.length k s.held part; length = m } ≡ held_of s.counts (line_of s ++ line)
held_more s kept o line part m k e f g =
    let r = ruled s kept.0 in
    let n = line_small s kept in
    let sum : s.length + k ≡ length (line_of s ++ line) = rw length-append (omega arith) in
    same_reader _ _ (opened s.phase o) refl
    (ap (λ (l : List ℕ). take s.length s.held ++ (l ++ drop k (drop s.length s.held))) e ∙ sym (append_assoc (line_of s) line _)
    ∙ ap (λ (l : List ℕ). (line_of s ++ line) ++ l) (ap (drop k) r.clear ∙ drop-drop k s.length zeros ∙ ap (λ (j : ℕ). drop j zeros) sum))
    (rw length-append (omega arith))

pub line_more : (s : Reader) → Kept s → (line part : List ℕ) (m k : ℕ) → part ≡ line → m ≡ s.length + length line → take m (put_mid s.length k s.held part) ≡ line_of s ++ line
line_more s kept line part m k e f =
    take-put_mid s.length k s.held part m (f ∙ ap (λ (l : List ℕ). s.length + length l) (sym e)) (omega (arith, reader_small s kept.0, kept.1))
    ∙ ap (λ (l : List ℕ). line_of s ++ l) e

-- which keeps the rule,
pub more_ruled : (s : Reader) → Kept s → (line : List ℕ) → is_plain line ≡ true → s.length + length line ≤ 63 → is_reader (held_of s.counts (line_of s ++ line)) ≡ true
more_ruled s k line p h =
    let r = ruled s k.0 in
    held_ruled s.counts (line_of s ++ line) r.before (plain_append (line_of s) line r.plain p) (rw length-append (omega (arith, line_small s k)))

-- and they lead there.
pub line_held : (s : Reader) (most : ℕ) (piece line rest : List ℕ) → Kept s → is_open s.phase ≡ true → Cut most piece line rest → s.length + length line ≤ 63
    → run s piece ≡ run (held_of s.counts (line_of s ++ line)) rest
line_held s most piece line rest k o t h =
    ap (run s) t.whole ∙ ap (λ (t : Reader). run t (line ++ rest)) (open_held s k.0 k.1 o) ∙ run_append (held_of s.counts (line_of s)) line rest
    ∙ ap (λ (t : Reader). run t rest) (run_hold line s.counts (line_of s) t.plain (omega (arith, line_small s k)))

-- With its line feed the line is judged.
pub line_judged : (s : Reader) (most : ℕ) (piece line rest : List ℕ) (b : ℕ) (behind : List ℕ) → Kept s → is_open s.phase ≡ true → Cut most piece line rest
    → s.length + length line ≤ 63 → length line < most → rest ≡ b ∷ behind → run s piece ≡ run (after_line s.counts (judged s.counts (line_of s ++ line))) behind
line_judged s most piece line rest b behind k o t h few e =
    line_held s most piece line rest k o t h ∙ ap (run (held_of s.counts (line_of s ++ line))) (e ∙ ap (λ (x : ℕ). x ∷ behind) (t.fed few b behind e))
    ∙ run_cons (held_of s.counts (line_of s ++ line)) 10 behind ∙ ap (λ (t : Reader). run t behind) (step_feed s.counts (line_of s ++ line))

-- Where the bytes are too many it is refused.
pub line_refused : (s : Reader) (most : ℕ) (piece line rest : List ℕ) → Kept s → is_open s.phase ≡ true → Cut most piece line rest → 63 < s.length + length line
    → run s piece ≡ between Refused s.counts
line_refused s most piece line rest k o t h =
    ap (run s) t.whole ∙ ap (λ (t : Reader). run t (line ++ rest)) (open_held s k.0 k.1 o)
    ∙ over_run line s.counts (line_of s) rest t.plain (omega (arith, line_small s k)) (omega (arith, line_small s k, reader_small s k.0))

-- an open reader that holds nothing
pub open_between : (s : Reader) → Kept s → is_open s.phase ≡ true → s.length ≡ 0 → s ≡ between Open s.counts
open_between s k o z = open_held s k.0 k.1 o ∙ ap (held_of s.counts) (ap (λ (n : ℕ). take n s.held) z)

pub between_with : (s : Reader) → Kept s → is_open s.phase ≡ true → s.length ≡ 0 → (c : Counts) → record { phase = s.phase; counts = c; held = s.held; length = s.length } ≡ between Open c
between_with s k o z c = let e = open_between s k o z in λ i. record { phase = (e i).phase; counts = c; held = (e i).held; length = (e i).length }

-- The next slot's line: the counts with it, what it leads to, and that some bytes are taken.
pub record OneSlot (c : Counts) (piece : List ℕ) (o : ℕ) (rest : List ℕ) : Type 0 where
  pub before : is_before (counted c o) ≡ true
  pub same : run (between Open c) piece ≡ run (between Open (counted c o)) rest
  pub shorter : length rest < length piece

pub one_slot : (c : Counts) (piece : List ℕ) (o : ℕ) (rest : List ℕ) → is_before c ≡ true → NextSlot c piece o rest → OneSlot c piece o rest
one_slot c piece o rest b w =
    record {
      before = slot_before c o w.tuned w.few w.outcome_is b;
      same = ap (run (between Open c)) w.line ∙ slot_run c o rest w.tuned w.few w.outcome_is;
      shorter = omega (arith, ap length w.line, length-append (slot_line (c.slots + 1) o) (10 ∷ rest));
    }
