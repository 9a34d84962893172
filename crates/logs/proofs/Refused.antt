-- What `read` tells of a good beginning and a rest: it is refused at the first bad line, with that line's number and the counts before it.
-- Assumes nothing.
use Prim.Native.Nat.{ℕ, ◌<◌, ◌≤◌}
use mathlib.Core.Path.{◌≡◌, refl, ap, sym, ◌∙◌}
use mathlib.Core.Bool.{true}
use mathlib.Core.List.{List, [], ◌∷◌, ◌++◌, append-nil}
use native.Mathlib.Omega.{arith}
use lib.ListN.{length, length-append}
use lib.Dec.{leb}
use borrow.Author.Tests.{leb-true, leb-false, ne_eqb}
use Rattle.logs.specs.declared.Reader.{Reader}
use Rattle.logs.specs.declared.Phase.TheVariants.{Open, Refused}
use Rattle.logs.specs.Reader.{ToldLog, between, run, after_end, whole_of, read_of, is_plain}
use Rattle.logs.specs.Beginning.{Beginning, nothing, lines, text_of, is_good, counts_of, GoodLine, Stops, refused_after, told_of}
use Rattle.logs.proofs.Lists.{by_cases}
use Rattle.logs.proofs.Plain.{lines_with}
use Rattle.logs.proofs.Runs.{run_hold, run_shut, line_run, over_run, held_of}
use Rattle.logs.proofs.Beginnings.{good, slots_are, tuned_some, begin_run, next_line}

-- the end of a reader, told
abbrev ends : Reader → ToldLog
ends s = whole_of (after_end s)

after_told : (b : Beginning) (rest : List ℕ) (s : Reader) → is_good b ≡ true → run (between Open (counts_of b)) rest ≡ s
    → read_of (text_of b ++ rest) ≡ ends s
unfolding read_of
after_told b rest s g e = ap ends (begin_run b rest g ∙ e)

shut_told : (b : Beginning) (rest : List ℕ) → is_good b ≡ true → run (between Open (counts_of b)) rest ≡ between Refused (counts_of b)
    → read_of (text_of b ++ rest) ≡ refused_after b
shut_told nothing rest g e = after_told nothing rest _ g e
shut_told (lines n os) rest g e = after_told (lines n os) rest _ g e ∙ rw (tuned_some n os (good n os g).band, slots_are n os)

-- A LINE OF 64 BYTES AND MORE IS REFUSED, WHATEVER FOLLOWS
pub long_line : (b : Beginning) (line rest : List ℕ) → is_good b ≡ true → is_plain line ≡ true → 63 < length line
    → read_of (text_of b ++ (line ++ rest)) ≡ refused_after b
long_line b line rest g p h = shut_told b (line ++ rest) g (over_run line (counts_of b) [] rest p (omega arith) (omega arith))

-- A LINE THAT MAY NOT COME NEXT IS REFUSED, WHATEVER FOLLOWS
pub bad_line : (b : Beginning) (line rest : List ℕ) → is_good b ≡ true → is_plain line ≡ true → (GoodLine b line → ⊥)
    → read_of (text_of b ++ (line ++ (10 ∷ rest))) ≡ refused_after b
bad_line b line rest g p n =
    by_cases _ (leb (length line) 63)
    (λ h. next_line b line _ g (λ q. absurd (n q))
    (λ q e.
    shut_told b (line ++ (10 ∷ rest)) g
    (line_run (counts_of b) line rest p (leb-true (length line) 63 h) ∙ ap (λ (s : Reader). run s rest) e
    ∙ run_shut (between Refused (counts_of b)) rest refl)))
    (λ h. long_line b line (10 ∷ rest) g p (leb-false (length line) 63 h))

held_told : (b : Beginning) (line : List ℕ) → is_good b ≡ true → ends (held_of (counts_of b) line) ≡ told_of b line
held_told nothing line g = refl
held_told (lines n os) [] g = rw (tuned_some n os (good n os g).band)
held_told (lines n os) (x ∷ line) g =
    rw (tuned_some n os (good n os g).band, ne_eqb (length (x ∷ line)) 0 (λ e. omega arith), slots_are n os)

some_told : (b : Beginning) (rest : List ℕ) → 1 ≤ length rest → told_of b rest ≡ refused_after b
some_told nothing rest h = refl
some_told (lines n os) [] h = absurd (omega arith)
some_told (lines n os) (x ∷ rest) h = refl

-- a rest without a line feed
pub plain_told : (b : Beginning) (line : List ℕ) → is_good b ≡ true → is_plain line ≡ true → read_of (text_of b ++ line) ≡ told_of b line
plain_told b line g p =
    by_cases _ (leb (length line) 63)
    (λ h. after_told b line _ g (run_hold line (counts_of b) [] p (omega (arith, leb-true (length line) 63 h))) ∙ held_told b line g)
    (λ h.
    let l = leb-false (length line) 63 h in
    ap (λ (k : List ℕ). read_of (text_of b ++ k)) (sym (append-nil line)) ∙ long_line b line [] g p (omega arith)
    ∙ sym (some_told b line (omega arith)))

-- A LAST LINE WITHOUT ITS LINE FEED IS REFUSED, OF ANY LENGTH
pub unfinished_line : (b : Beginning) (line : List ℕ) → is_good b ≡ true → is_plain line ≡ true → 1 ≤ length line
    → read_of (text_of b ++ line) ≡ refused_after b
unfinished_line b line g p h = plain_told b line g p ∙ some_told b line h

-- AND SO IS A MISSING FIRST LINE: NO BYTES, OR NO LINE FEED AMONG THEM
pub unfinished_first : (line : List ℕ) → is_plain line ≡ true → read_of line ≡ refused_after nothing
unfinished_first line p = plain_told nothing line refl p

-- WHAT `read` TELLS OF A GOOD BEGINNING AND A REST THAT NO GOOD LINE STARTS
pub stops_told : (b : Beginning) (rest : List ℕ) → is_good b ≡ true → Stops b rest → read_of (text_of b ++ rest) ≡ told_of b rest
stops_told b rest g =
    lines_with (λ k. Stops b k → read_of (text_of b ++ k) ≡ told_of b k) (λ k p s. plain_told b k g p)
    (λ line more p t s.
    bad_line b line more g p (s line more refl) ∙ sym (some_told b (line ++ (10 ∷ more)) (omega (arith, length-append line (10 ∷ more))))) rest
