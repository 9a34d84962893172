-- What a line is compared with, part by part. Assumes nothing.
use Prim.Native.Nat.{ℕ, suc, zero, ◌+◌, ◌-◌, ◌/◌, ◌%◌, ◌^◌, ◌<◌, ◌≤◌}
use mathlib.Core.Path.{◌≡◌, refl, ap, sym, ◌∙◌}
use Rattle.std.specs.Prelude.{Option, Some, None, IfSome}
use Rattle.text.proofs.Laws.{other_length, same_true}
use mathlib.Core.Bool.{Bool, true, false, ◌&&◌, and-true, and-false}
use mathlib.Core.List.{List, [], ◌∷◌, ◌++◌, append_assoc}
use native.Mathlib.Omega.{arith}
use lib.ListN.{length, get_or, take, drop, length-append, take-append-drop}
use lib.Seq.{take_all, length-take-le}
use lib.Dec.{eqb, ltb, leb}
use borrow.Author.Tests.{eq-eqb, leb-true, leb-false}
use Rattle.text.specs.Fields.{same_as}
use Rattle.logs.specs.Decimal.{decimal}
use Rattle.text.specs.Ascii.{tab}
use Rattle.logs.specs.Log.{first_line, slot_line, last, channel_up_to, is_outcome, is_next}
use Rattle.logs.proofs.Lists.{by_cases, cond_with, same_snoc, same_none, same_append, take_last}
use Rattle.logs.proofs.Decimal.{decimal_more}

-- the last digit, and the digits before it
pub digit_last : (front : List ℕ) (last n : ℕ) → 10 ≤ n → n < 10 ^ 20 → same_as (front ++ (last ∷ [])) (decimal n) ≡ (same_as front (decimal (n / 10)) && eqb last (48 + n % 10))
digit_last front last n h k = rw (decimal_more n h k) (same_snoc front (decimal (n / 10)) last (48 + n % 10))

pub digits_out : (n : ℕ) → 10 ≤ n → n < 10 ^ 20 → same_as [] (decimal n) ≡ false
digits_out n h k = rw (decimal_more n h k) (same_none (decimal (n / 10)) (48 + n % 10))

abbrev pub channel_tab : List ℕ
channel_tab = 99 ∷ 104 ∷ 97 ∷ 110 ∷ 110 ∷ 101 ∷ 108 ∷ 9 ∷ []

pub first_parts : (l : List ℕ) (n : ℕ) → 8 ≤ length l → same_as l (first_line n) ≡ (same_as (take 8 l) channel_tab && same_as (drop 8 l) (decimal n))
unfolding first_line
first_parts l n h =
    ap (λ (k : List ℕ). same_as k (channel_tab ++ decimal n)) (sym (take-append-drop 8 l))
    ∙ same_append (take 8 l) (drop 8 l) channel_tab (decimal n) (length-take-le 8 l h)

pub first_short : (l : List ℕ) (n : ℕ) → length l < 8 → same_as l (first_line n) ≡ false
unfolding first_line
first_short l n h =
    other_length l (channel_tab ++ decimal n) (λ e. omega (arith, e, length-append channel_tab (decimal n)))

-- a line of two bytes and more
line_parts : (l : List ℕ) → 2 ≤ length l
    → l ≡ (take (length l - 2) l ++ (get_or l (length l - 2) 0 ∷ [])) ++ (last l ∷ [])
line_parts l h =
    let e : length l - 1 - 1 ≡ length l - 2 = omega arith in
    sym (take_all (length l) l (omega arith)) ∙ take_last l (length l) (omega arith) (omega arith)
    ∙ ap (λ (k : List ℕ). k ++ (last l ∷ []))
    (take_last l (length l - 1) (omega arith) (omega arith) ∙ ap (λ (j : ℕ). take j l ++ (get_or l j 0 ∷ [])) e)

slot_split : (a : List ℕ) (x z : ℕ) (l : List ℕ) (n : ℕ) → l ≡ (a ++ (x ∷ [])) ++ (z ∷ [])
    → same_as l (decimal n ++ (tab ∷ z ∷ [])) ≡ (same_as a (decimal n) && eqb x tab)
slot_split a x z l n e =
    ap (λ (k : List ℕ). same_as k (decimal n ++ (tab ∷ z ∷ []))) e
    ∙ ap (λ (k : List ℕ). same_as ((a ++ (x ∷ [])) ++ (z ∷ [])) k) (sym (append_assoc (decimal n) (tab ∷ []) (z ∷ [])))
    ∙ same_snoc (a ++ (x ∷ [])) (decimal n ++ (tab ∷ [])) z z
    ∙ ap (λ (t : Bool). same_as (a ++ (x ∷ [])) (decimal n ++ (tab ∷ [])) && t) (eq-eqb z z refl)
    ∙ and-true (same_as (a ++ (x ∷ [])) (decimal n ++ (tab ∷ []))) ∙ same_snoc a (decimal n) x tab

pub slot_parts : (l : List ℕ) (n : ℕ) → 2 ≤ length l
    → same_as l (slot_line n (last l)) ≡ (same_as (take (length l - 2) l) (decimal n) && eqb (get_or l (length l - 2) 0) tab)
unfolding slot_line
slot_parts l n h =
    slot_split (take (length l - 2) l) (get_or l (length l - 2) 0) (last l) l n (line_parts l h)

pub slot_short : (l : List ℕ) (n z : ℕ) → length l < 2 → same_as l (slot_line n z) ≡ false
unfolding slot_line
slot_short l n z h =
    other_length l (decimal n ++ (tab ∷ z ∷ [])) (λ e. omega (arith, e, length-append (decimal n) (tab ∷ z ∷ [])))

pub next_parts : (slots : ℕ) (l : List ℕ) → 2 ≤ length l
    → is_next slots l ≡ (ltb slots 999999 && is_outcome (last l) && (same_as (take (length l - 2) l) (decimal (slots + 1)) && eqb (get_or l (length l - 2) 0) tab))
unfolding is_next
next_parts slots l h = rw (slot_parts l (slots + 1) h)

pub next_short : (slots : ℕ) (l : List ℕ) → length l < 2 → is_next slots l ≡ false
unfolding is_next
next_short slots l h = rw (slot_short l (slots + 1) (last l) h) (and-false _)

-- a line that does is that of the channel whose number is what follows
pub first_number : (l name number : List ℕ) (n : ℕ) → 8 ≤ length l → name ≡ take 8 l → number ≡ drop 8 l → same_as name channel_tab ≡ true
    → same_as l (first_line n) ≡ same_as number (decimal n)
first_number l name number n h a d e = first_parts l n h ∙ rw (ap (λ s. same_as s channel_tab) (sym a) ∙ e, d)

-- a line that does not begin with `channel` and a tab is the first line of no channel
pub not_first : (l : List ℕ) (n : ℕ) → same_as (take 8 l) channel_tab ≡ false → same_as l (first_line n) ≡ false
not_first l n e = by_cases _ (leb 8 (length l)) (λ h. first_parts l n (leb-true 8 (length l) h) ∙ rw e) (λ h. first_short l n (leb-false 8 (length l) h))

pub channel_absent : (n : ℕ) (l : List ℕ) → same_as (take 8 l) channel_tab ≡ false → channel_up_to n l ≡ None
unfolding channel_up_to
channel_absent zero l e = refl
channel_absent (suc n) l e = rw (not_first l (suc n) e) (channel_absent n l e)

pub channel_here : (n : ℕ) (l : List ℕ) → 1 ≤ n → same_as l (first_line n) ≡ true → channel_up_to n l ≡ Some n
unfolding channel_up_to
channel_here (suc n) l h e = rw e
channel_here zero l h e = absurd (omega arith)

pub channel_next : (n : ℕ) (l : List ℕ) → 1 ≤ n → same_as l (first_line n) ≡ false → channel_up_to n l ≡ channel_up_to (n - 1) l
unfolding channel_up_to
channel_next (suc n) l h e = let z : suc n - 1 ≡ n = omega arith in rw (e, z)
channel_next zero l h e = absurd (omega arith)

pub channel_none : (n : ℕ) (l : List ℕ) → n < 1 → channel_up_to n l ≡ None
unfolding channel_up_to
channel_none zero l h = refl
channel_none (suc n) l h = absurd (omega arith)

-- the channel whose first line this is
pub channel_line : (n : ℕ) (line : List ℕ) → IfSome (channel_up_to n line) (λ k. (1 ≤ k) × (k ≤ n) × (line ≡ first_line k))
unfolding channel_up_to
channel_line zero line = tt
channel_line (suc n) line =
    cond_with (λ (o : Option ℕ). IfSome o (λ k. (1 ≤ k) × (k ≤ suc n) × (line ≡ first_line k))) (same_as line (first_line (suc n)))
    (λ e. (omega arith, omega arith, same_true line (first_line (suc n)) e))
    (λ e. further (channel_up_to n line) (channel_line n line))
  where
    further : (o : Option ℕ) → IfSome o (λ k. (1 ≤ k) × (k ≤ n) × (line ≡ first_line k)) → IfSome o (λ k. (1 ≤ k) × (k ≤ suc n) × (line ≡ first_line k))
    further None h = tt
    further (Some k) h = (h.0, omega (arith, h.1), h.2)
