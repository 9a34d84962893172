-- Laws of a text that is built and delivered. Assumes nothing.
use Prim.Native.Nat.{ℕ, ◌+◌, ◌*◌, ◌/◌, ◌%◌, ◌^◌, ◌<◌, ◌≤◌}
use mathlib.Core.Path.{◌≡◌, refl, ap, sym, ◌∙◌, subst}
use mathlib.Core.Bool.{Bool, true, false, and-eq-true_iff}
use mathlib.Core.List.{List, [], ◌∷◌, ◌++◌, append_assoc, append-nil}
use native.Mathlib.Omega.{arith}
use lib.ListN.{length, get_or, take, drop, length-append}
use lib.Seq.{length-take-le, drop-cons}
use Rattle.std.proofs.lemmas.List.{drop_all}
use lib.Dec.{leb}
use borrow.Author.Tests.{eq-eqb, ne_eqb}
use Rattle.std.specs.Prelude.{Result, Ok, Err, IsOk, IfOk, MatchResult, Option, IfSome, Float}
use Rattle.std.specs.Bool.{then_some}
use Rattle.std.specs.Fn.{Once}
use denote.MutBor.{MutBor}
use native.Mathlib.Numerals.{add-one}
use Rattle.std.specs.Fmt.{decimal as Fmt·decimal}
use Rattle.std.proofs.lemmas.Fmt.{decimal_by_steps}
use Rattle.answers.specs.declared.Refusal.{Refusal}
use Rattle.answers.specs.Numbers.{accepted, number_of, paper}
use Rattle.answers.specs.Rules.{unless}
use Rattle.answers.proofs.Determined.{refused_accepted}
use Rattle.band.specs.declared.Kilohertz.{Kilohertz}
use Rattle.band.specs.Band.{ToldNumber, told_kilohertz, is_channel, kilohertz_of}
use Rattle.logs.specs.Log.{is_counts, is_sound}
use Rattle.logs.specs.Decimal.{decimal}
use Rattle.logs.proofs.Decimal.{decimal_few, decimal_more}
use Rattle.logs.proofs.Lists.{by_cases}
use Rattle.summary.specs.declared.building.Text.{Text}
use Rattle.text.specs.Ascii.{tab, line_feed}
use Rattle.logs.specs.declared.Counts.{Counts}
use Rattle.summary.specs.declared.Summary.{Summary}
use Rattle.summary.specs.Export.{cell, sheet_row}
use Rattle.summary.specs.Report.{ended, frequency, ToldText, told_text, not_delivered, delivered, thousandths, refusal_line, or_refusal}
use Rattle.summary.specs.Building.{room, content, Grows, Measured, option_cell, tabbed, Wrote}

-- one part after the other
pub grows_then : {t u v : Text} {a b : List ℕ} → Grows t a u → Grows u b v → Grows t (a ++ b) v
grows_then {t} {u} {v} {a} {b} g h =
    record {
      text = λ f.
          let e = append_assoc (content t) a b in
          let l : length (content t ++ a) ≤ room = omega (arith, f, ap length e, length-append (content t ++ a) b) in
          let k = g.text l in
          h.text (omega (arith, f, ap length e, ap (λ (l : List ℕ). length (l ++ b)) k)) ∙ ap (λ (l : List ℕ). l ++ b) k ∙ e;
    }

pub grows_same : {t u : Text} {a b : List ℕ} → a ≡ b → Grows t a u → Grows t b u
grows_same {t} {u} e g = subst (λ (l : List ℕ). Grows t l u) e g

pub grows_none : (t : Text) → Grows t [] t
grows_none t = record { text = λ f. sym (append-nil (content t)) }

-- the whole text, where it fits
pub grows_whole : {t u : Text} {s : List ℕ} → content t ≡ [] → length s ≤ room → Grows t s u → content u ≡ s
grows_whole {t} {u} {s} e h g =
    let k = ap (λ (l : List ℕ). l ++ s) e in
    g.text (omega (arith, h, ap length k)) ∙ k

-- and is delivered
pub told_whole : {t u : Text} {s : List ℕ} {told : ToldText} (out : List ℕ) → told ≡ delivered (content u) out → content t ≡ [] → length s ≤ room → Grows t s u
    → told ≡ delivered s out
told_whole out d e h g = d ∙ ap (λ (l : List ℕ). delivered l out) (grows_whole e h g)

-- std's decimal digits of a number of 64 bits
pub decimal_std : (n : ℕ) → n < 2 ^ 64 → Fmt·decimal n ≡ decimal n
decimal_std n h =
    decimal_by_steps (λ n l. n < 10 ^ 20 → l ≡ decimal n) (λ n k f. sym (decimal_few n k))
    (λ n l k i f. ap (λ (d : List ℕ). d ++ ((48 + n % 10) ∷ [])) (i (omega arith)) ∙ sym (decimal_more n k f)) n h (omega arith)

-- the mean, and no mean
pub mean_some : (bits read b r n : ℕ) → b ≡ bits → r ≡ read → 0 < r → n ≡ 1000 * b / r → decimal n ≡ thousandths bits read
unfolding thousandths
mean_some bits read b r n e f h g =
    ap decimal (g ∙ ap (λ (b : ℕ). 1000 * b / r) e ∙ ap (λ (r : ℕ). 1000 * bits / r) f) ∙ sym (rw (ne_eqb read 0 (λ z. omega (arith, f))))

pub mean_none : (bits read r : ℕ) → r ≡ read → (0 < r → ⊥) → (45 ∷ []) ≡ thousandths bits read
unfolding thousandths
mean_none bits read r f h = sym (rw (eq-eqb read 0 (omega (arith, f, h))))

-- the channel of an accepted log has a frequency
pub frequency_ok : (c : Counts) (r : Result Kilohertz Refusal) → told_kilohertz r ≡ kilohertz_of (record { 0 = c.channel }) → is_counts c ≡ true → IsOk r
unfolding is_counts
frequency_ok c (Ok k) e h = refl
frequency_ok c (Err refusal) e h =
    let k : is_channel c.channel ≡ true = ((and-eq-true_iff (is_channel c.channel) (is_sound c)).0 h).0 in
    let a : (kilohertz_of (record { 0 = c.channel })).answer ≡ accepted = rw k refl in
    absurd (refused_accepted (number_of refusal) (ap (λ (t : ToldNumber). t.answer) e ∙ a))

-- the numbers of a row, one by one
pub tabbed_next : (numbers : List ℕ) (i d : ℕ) (rest : List ℕ) → i < length numbers
    → ended (decimal (get_or numbers i d)) tab ++ tabbed (drop (i + 1) numbers) rest ≡ tabbed (drop i numbers) rest
tabbed_next numbers i d rest h =
    sym (ap (λ (l : List ℕ). tabbed l rest) (drop-cons numbers i d h ∙ ap (λ (k : ℕ). get_or numbers i d ∷ drop k numbers) (sym (add-one i))))

pub tabbed_out : (numbers : List ℕ) (i : ℕ) (rest : List ℕ) → length numbers ≤ i → rest ≡ tabbed (drop i numbers) rest
tabbed_out numbers i rest h = sym (ap (λ (l : List ℕ). tabbed l rest) (drop_all i numbers h))

pub row_is : (c : Counts) (s : Summary) (n f : ℕ) → n ≡ c.channel → f ≡ frequency c
    → tabbed (n ∷ f ∷ c.slots ∷ c.read ∷ c.clean ∷ c.bits ∷ c.noword ∷ c.check ∷ c.missing ∷ [])
    (ended (cell s.mean_exists s.mean) tab ++ ended (cell s.missing_exists s.missing) line_feed) ≡ sheet_row c s
unfolding sheet_row
row_is c s n f e g = rw (e, g)

-- a cell of a number beside its flag
pub cell_some : (exists : Bool) (x : Float) {o : Option Float} → o ≡ then_some exists x → option_cell o ≡ cell exists x
unfolding cell
cell_some true x e = ap option_cell e
cell_some false x e = ap option_cell e

pub some_measured : (exists : Bool) (x : Float) {o : Option Float} → o ≡ then_some exists x → Measured x → IfSome o Measured
some_measured true x e m = subst (λ (o : Option Float). IfSome o Measured) (sym e) m
some_measured false x e m = subst (λ (o : Option Float). IfSome o Measured) (sym e) tt

-- what was delivered stands in the output
enough : (counted : Bool) (text out : List ℕ) → let t = unless counted (not_delivered 11 out) (delivered text out) in t.length ≤ length t.out
enough false text out = omega arith
enough true text out =
    by_cases _ (leb (length text) (length out)) (λ e. rw e (omega (arith, length-append text (drop (length text) out)))) (λ e. rw e (omega arith))

-- so many bytes stand at the start of a list
abbrev Within : List ℕ → ℕ → Type 0
Within x n = (n ≤ length x) × (n ≡ length (take n x))

within : (r : Result ℕ Refusal) (x : List ℕ) (counted : Bool) (text out : List ℕ) → told_text r x ≡ unless counted (not_delivered 11 out) (delivered text out)
    → IfOk r (Within x)
within (Ok n) x counted text out e =
    let h : n ≤ length x = subst (λ (t : ToldText). t.length ≤ length t.out) (sym e) (enough counted text out) in
    (h, sym (length-take-le n x h))
within (Err r) x counted text out e = tt

-- what a program writes of an accepted log, and of one that was refused
pub log_told : {F : Type 0} (g : Once F (Counts × (MutBor (List ℕ) × Unit {0})) (Result ℕ Refusal × (MutBor (List ℕ) × Unit {0}))) (write : F)
    (answer : Result Unit Refusal) (counts : Counts) (place : ℕ) (old new : List ℕ) (r : Result ℕ Refusal) (counted : Bool) (text : List ℕ)
    → ((lent back : MutBor (List ℕ)) → g.post write (counts, (lent, tt)) (r, (back, tt)) → told_text r back.now ≡ unless counted (not_delivered 11 lent.now) (delivered text lent.now))
    → MatchResult answer (λ u. Wrote g write counts old r new) (λ refusal. told_text r new ≡ delivered (refusal_line (number_of refusal) place) old)
    → (told_text r new ≡ or_refusal (paper answer) place old (unless counted (not_delivered 11 old) (delivered text old))) × IfOk r (Within new)
log_told g write (Ok u) counts place old new r counted text p w =
    let e = sym (ap (told_text r) w.after) ∙ p w.lent w.back w.call ∙ ap (λ (l : List ℕ). unless counted (not_delivered 11 l) (delivered text l)) w.before in
    (e, within r new counted text old e)
log_told g write (Err refusal) counts place old new r counted text p e =
    (e, within r new true (refusal_line (number_of refusal) place) old e)
