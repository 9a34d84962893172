-- Every byte string is a longest good beginning and a rest, in one way. Assumes nothing.
use Prim.Native.Nat.{ℕ, ◌+◌, ◌<◌, ◌≤◌}
use mathlib.Core.Path.{◌≡◌, refl, ap, sym, ◌∙◌, subst}
use mathlib.Core.Bool.{true, and-eq-true_iff}
use mathlib.Core.List.{List, [], ◌∷◌, ◌++◌}
use native.Mathlib.Omega.{arith}
use lib.ListN.{length, length-append}
use Rattle.band.proofs.Laws.{in_range}
use Rattle.logs.specs.Log.{first_line, slot_line, is_outcome, slot_lines, log_text, all_outcomes, last}
use Rattle.logs.specs.Reader.{read_of, is_plain}
use Rattle.logs.specs.Beginning.{Beginning, nothing, lines, text_of, is_good, GoodSlot, GoodLine, Stops, Parted}
use Rattle.logs.proofs.Plain.{lines_with, not_plain, plain_cut}
use Rattle.logs.proofs.Written.{first_once, first_plain, slot_last, slot_plain}
use Rattle.logs.proofs.Beginnings.{good, next_line, good_plain, text_line, slots_line, more_line}
use Rattle.logs.proofs.Refused.{stops_told}

-- ---- there is one

-- how far a good beginning goes on in a rest
record Found (b : Beginning) (rest : List ℕ) : Type 0 where
  beginning : Beginning
  left : List ℕ
  text : text_of b ++ rest ≡ text_of beginning ++ left
  good : is_good beginning ≡ true
  stops : Stops beginning left
  less : length left ≤ length rest

no_further : (b : Beginning) (rest : List ℕ) → is_good b ≡ true → Stops b rest → Found b rest
no_further b rest g s = record { beginning = b; left = rest; text = refl; good = g; stops = s; less = omega arith }

-- line by line, up to the first that may not come next
find : (rest : List ℕ) (b : Beginning) → is_good b ≡ true → Found b rest
find =
    lines_with (λ rest. (b : Beginning) → is_good b ≡ true → Found b rest)
    (λ left p b g. no_further b left g (λ line more e q. not_plain line more (subst (λ (l : List ℕ). is_plain l ≡ true) e p)))
    (λ line more p on b g. next_line b line _ g
    (λ q.
    let m = more_line b line g q in
    let f = on m.0 m.1 in
    record {
      beginning = f.beginning;
      left = f.left;
      text = m.2 more ∙ f.text;
      good = f.good;
      stops = f.stops;
      less = omega (arith, f.less, length-append line (10 ∷ more));
    })
    (λ n e. no_further b (line ++ (10 ∷ more)) g (λ l m e q. n (subst (GoodLine b) (sym (plain_cut line l more m p (good_plain b l q) e).0) q))))

-- ---- there is only one

-- after so many slots the rest does not start with the next slot's line
abbrev NoSlot : ℕ → List ℕ → Type 0
NoSlot slots rest = (line more : List ℕ) → rest ≡ line ++ (10 ∷ more) → GoodSlot slots line → ⊥

slot_starts : (k i o : ℕ) (os rest more : List ℕ) → k ≡ i → is_outcome o ≡ true → k < 999999 → NoSlot i rest → rest ≡ slot_lines (k + 1) (o ∷ os) ++ more → ⊥
slot_starts k i o os rest more z h f s e =
    s (slot_line (k + 1) o) (slot_lines (k + 1 + 1) os ++ more) (e ∙ slots_line (k + 1) o os more) (o, h, omega arith, ap (λ (j : ℕ). slot_line (j + 1) o) z)

slots_once : (os ps : List ℕ) (k i j : ℕ) (rest more : List ℕ) → all_outcomes os ≡ true → all_outcomes ps ≡ true → k + length os ≡ i → k + length ps ≡ j
    → i ≤ 999999 → j ≤ 999999 → NoSlot i rest → NoSlot j more → slot_lines (k + 1) os ++ rest ≡ slot_lines (k + 1) ps ++ more → (os ≡ ps) × (rest ≡ more)
unfolding slot_lines all_outcomes
slots_once [] [] k i j rest more g h y z f l s t e = (refl, e)
slots_once [] (p ∷ ps) k i j rest more g h y z f l s t e =
    absurd (slot_starts k i p ps rest more (omega arith) ((and-eq-true_iff (is_outcome p) (all_outcomes ps)).0 h).0 (omega arith) s e)
slots_once (o ∷ os) [] k i j rest more g h y z f l s t e =
    absurd (slot_starts k j o os more rest (omega arith) ((and-eq-true_iff (is_outcome o) (all_outcomes os)).0 g).0 (omega arith) t (sym e))
slots_once (o ∷ os) (p ∷ ps) k i j rest more g h y z f l s t e =
    let a = (and-eq-true_iff (is_outcome o) (all_outcomes os)).0 g in
    let b = (and-eq-true_iff (is_outcome p) (all_outcomes ps)).0 h in
    let c = plain_cut (slot_line (k + 1) o) (slot_line (k + 1) p) _ _ (slot_plain (k + 1) o a.0) (slot_plain (k + 1) p b.0)
    (sym (slots_line (k + 1) o os rest) ∙ e ∙ slots_line (k + 1) p ps more) in
    let q : o ≡ p = sym (slot_last (k + 1) o) ∙ ap last c.0 ∙ slot_last (k + 1) p in
    let r = slots_once os ps (k + 1) i j rest more a.1 b.1 (omega arith) (omega arith) f l s t c.1 in
    ((λ i. q i ∷ r.0 i), r.1)

first_starts : (n : ℕ) (os rest more : List ℕ) → is_good (lines n os) ≡ true → Stops nothing rest → rest ≡ log_text n os ++ more → ⊥
first_starts n os rest more g s e = s (first_line n) (slot_lines 1 os ++ more) (e ∙ text_line n os more) (n, (good n os g).band, refl)

-- A BYTE STRING IS A GOOD BEGINNING AND A REST THAT NO GOOD LINE STARTS IN ONE WAY
pub parted_once : (b c : Beginning) (rest more : List ℕ) → is_good b ≡ true → is_good c ≡ true → Stops b rest → Stops c more
    → text_of b ++ rest ≡ text_of c ++ more → (b ≡ c) × (rest ≡ more)
parted_once nothing nothing rest more g h s t e = (refl, e)
parted_once nothing (lines m ps) rest more g h s t e = absurd (first_starts m ps rest more h s e)
parted_once (lines n os) nothing rest more g h s t e = absurd (first_starts n os more rest g t (sym e))
parted_once (lines n os) (lines m ps) rest more g h s t e =
    let a = good n os g in
    let b = good m ps h in
    let c = plain_cut (first_line n) (first_line m) _ _ (first_plain n) (first_plain m) (sym (text_line n os rest) ∙ e ∙ text_line m ps more) in
    let q = first_once n m (in_range n a.band).1 (in_range m b.band).1 c.0 in
    let r = slots_once os ps 0 (length os) (length ps) rest more a.all b.all (omega arith) (omega arith) a.few b.few s t c.1 in
    ((λ i. lines (q i) (r.0 i)), r.1)

-- no other good beginning is longer, as it goes on to this one
longest : (b c : Beginning) (rest more : List ℕ) → is_good b ≡ true → is_good c ≡ true → Stops b rest → text_of b ++ rest ≡ text_of c ++ more
    → length (text_of c) ≤ length (text_of b)
longest b c rest more g h s e =
    let f = find more c h in
    let o = parted_once b f.beginning rest f.left g f.good s f.stops (e ∙ f.text) in
    omega (arith, f.less, ap length o.1, ap length e, length-append (text_of b) rest, length-append (text_of c) more)

-- EVERY BYTE STRING IS A LONGEST GOOD BEGINNING AND A REST, AND THESE SAY WHAT `read` TELLS OF IT
pub parted : (log : List ℕ) → Parted log
parted log =
    let f = find log nothing refl in
    record {
      beginning = f.beginning;
      rest = f.left;
      text = f.text;
      good = f.good;
      stops = f.stops;
      longest = λ other more h e. longest f.beginning other f.left more f.good h f.stops (sym f.text ∙ e);
      told = ap read_of f.text ∙ stops_told f.beginning f.left f.good f.stops;
    }
