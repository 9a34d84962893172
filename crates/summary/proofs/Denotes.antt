-- The text of a cell shows the number: it denotes it exactly, and a reader that rounds to the nearest gets that binary64 back.
-- Assumes nothing.
use Prim.Native.Nat.{ℕ, suc, zero, ◌+◌, ◌-◌, ◌*◌, ◌/◌, ◌%◌, ◌^◌, ◌<◌, ◌≤◌}
use mathlib.Core.Path.{◌≡◌, refl, ap, sym, ◌∙◌, subst}
use mathlib.Core.Logic.{◌⊎◌, inl, inr}
use mathlib.Core.Bool.{Bool, true, false, true≢false, or-true}
use mathlib.Core.List.{List, [], ◌∷◌, ◌++◌}
use native.Mathlib.Nat.{mul_assoc, mul_right_comm, add-mul, zero-mul, div-add-mod', div-lt_iff_lt-mul, mod-lt, pow-succ', mul-one, eq_of_mul-eq-mul_right, lt_of_lt_of_le, one-le-pow}
use native.Mathlib.Omega.{arith}
use lib.Dec.{T, eqb}
use lib.Pow.{pow_mono, shl_lt}
use lib.Ieee.{Float, nan, inf, fin, binary64, up, down, fits, size, span, climb, odd, units, round, of_bits, of_fields, to_bits}
use lib.Ieee.Bits.{of_bits-to_bits}
use lib.Ieee.Exact.{HasValue, round_exact}
use lib.Ieee.Fits.{down_pos, round-fits}
use lib.Ieee.Nearest.{div_same}
use lib.Ieee.Positive.{num, den, den_pos}
use lib.Ieee.Scale.{round_same}
use lib.ListN.{length}
use borrow.Author.Tests.{eqb-true, eqb-false, ne_eqb, le-leb}
use Rattle.text.specs.Find.{index_of}
use Rattle.answers.specs.Numbers.{accepted}
use Rattle.answers.proofs.Determined.{refused_accepted}
use Rattle.logs.specs.declared.Counts.{Counts}
use Rattle.logs.specs.Decimal.{number_from}
use Rattle.logs.specs.Log.{last, is_counts}
use Rattle.logs.proofs.Lists.{by_cases, cond_with}
use Rattle.logs.proofs.Decimal.{decimal_few}
use Rattle.summary.specs.declared.Summary.{Summary}
use Rattle.summary.specs.Summary.{summary_of}
use Rattle.summary.specs.Export.{decimals, expansion, cell, is_summary, exported_of}
use Rattle.summary.specs.Cells.{whole_in, decimals_in, digits_in, places_in, is_digits, is_whole, is_fraction, is_decimal_text, Shows, IsCell, Cells}
use Rattle.summary.specs.Building.{Measured}
use Rattle.summary.proofs.Expansion.{decimals_done, decimals_next}
use Rattle.summary.proofs.Exactly.{small_zero, less, left_over}
use Rattle.summary.proofs.Units.{scaled_units}
use Rattle.summary.proofs.Same.{bits_same, mean_given, missing_given, summary_given}
use Rattle.summary.proofs.Decode.{field_of, digits_of, Decoded, decoded}

-- ---- the decimals

-- decimals of r / d after the digits of v: read on, they give v + r / d times ten for each; the last is not `0`
record Spelt (v r d : ℕ) (l : List ℕ) : Type 0 where
  value : number_from v l * d ≡ (v * d + r) * 10 ^ length l
  digits : is_digits l ≡ true
  ends : (l ≡ []) ⊎ (49 ≤ last l)

spelt_none : (v d : ℕ) → Spelt v 0 d []
unfolding number_from is_digits
spelt_none v d = record { value = omega (arith, mul-one (v * d + 0)); digits = refl; ends = inl refl }

value_next : (v x r s d : ℕ) (l : List ℕ) → x * d + s ≡ 10 * r → number_from (v * 10 + x) l * d ≡ ((v * 10 + x) * d + s) * 10 ^ length l
    → number_from v ((48 + x) ∷ l) * d ≡ (v * d + r) * 10 ^ suc (length l)
unfolding number_from
value_next v x r s d l f i =
    let w : 48 + x - 48 ≡ x = omega arith in
    let p : (v * 10 + x) * d ≡ v * 10 * d + x * d = add-mul (v * 10) x d in
    let t : v * 10 * d ≡ v * d * 10 = mul_right_comm v 10 d in
    let g : (v * 10 + x) * d + s ≡ (v * d + r) * 10 = omega (arith, p, t, f) in
    ap (λ (n : ℕ). number_from (v * 10 + n) l * d) w ∙ i ∙ ap (λ (n : ℕ). n * 10 ^ length l) g
    ∙ mul_assoc (v * d + r) 10 (10 ^ length l) ∙ ap (λ (t : ℕ). (v * d + r) * t) (sym (pow-succ' 10 (length l)))

digits_next : (x : ℕ) (l : List ℕ) → x < 10 → is_digits l ≡ true → is_digits ((48 + x) ∷ l) ≡ true
unfolding is_digits
digits_next x l h e = rw (le-leb 48 (48 + x) (omega arith), le-leb (48 + x) 57 (omega arith)) e

-- a last digit of 0 would leave something over
some_digit : (x r s d : ℕ) → (r ≡ 0 → ⊥) → x * d + s ≡ 10 * r → s ≡ 0 → 1 ≤ x
some_digit zero r s d h f z = absurd (h (omega (arith, f, zero-mul d)))
some_digit (suc x) r s d h f z = omega arith

nothing_over : (v s d : ℕ) → Spelt v s d [] → s ≡ 0
unfolding number_from
nothing_over v s d i = omega (arith, i.value, mul-one (v * d + s))

ends_next : (v x r s d : ℕ) (l : List ℕ) → (r ≡ 0 → ⊥) → x * d + s ≡ 10 * r → Spelt (v * 10 + x) s d l → 49 ≤ last ((48 + x) ∷ l)
ends_next v x r s d [] h f i = omega (arith, some_digit x r s d h f (nothing_over (v * 10 + x) s d i))
ends_next v x r s d (y ∷ l) h f i =
    elim i.ends [
      | inl e ↦ absurd (omega (arith, ap length e))
      | inr g ↦ let j : suc (suc (length l)) - 1 ≡ suc (suc (length l) - 1) = omega arith in rw j g
    ]

spelt_next : (v r d : ℕ) (l : List ℕ) → 0 < d → r < d → (r ≡ 0 → ⊥) → Spelt (v * 10 + 10 * r / d) (10 * r % d) d l → Spelt v r d ((48 + 10 * r / d) ∷ l)
spelt_next v r d l D h z i =
    let x = 10 * r / d in
    let f : x * d + 10 * r % d ≡ 10 * r = div-add-mod' (10 * r) d in
    record {
      value = value_next v x r (10 * r % d) d l f i.value;
      digits = digits_next x l ((div-lt_iff_lt-mul {k = d} D).1 (omega arith)) i.digits;
      ends = inr (ends_next v x r (10 * r % d) d l z f i);
    }

spelt_zero : (n v r d : ℕ) → r ≡ 0 → Spelt v r d (decimals n r d)
spelt_zero n v r d z =
    subst (λ (s : ℕ). Spelt v s d (decimals n s d)) (sym z) (subst (Spelt v 0 d) (sym (decimals_done n d)) (spelt_none v d))

-- long division spells r / d, where r doubled k times is a multiple of d
spelt : (k n v r d q : ℕ) → 0 < d → r < d → k ≤ n → r * 2 ^ k ≡ q * d → Spelt v r d (decimals n r d)
spelt zero n v r d q D h m e = spelt_zero n v r d (small_zero r q d h e)
spelt (suc k) zero v r d q D h m e = absurd (omega arith)
spelt (suc k) (suc n) v r d q D h m e =
    by_cases _ (eqb r 0) (λ y. spelt_zero (suc n) v r d (eqb-true r 0 y))
    (λ y.
    let z = eqb-false r 0 y in
    let x = 10 * r / d in
    subst (Spelt v r d) (sym (decimals_next n r d z))
    (spelt_next v r d (decimals n (10 * r % d) d) D h z
    (spelt k n (v * 10 + x) (10 * r % d) d (5 * q - x * 2 ^ k) D (mod-lt (10 * r) D) (omega arith) (left_over k r d q e))))

fraction : (v r d : ℕ) (l : List ℕ) → (r ≡ 0 → ⊥) → Spelt v r d l → is_fraction l ≡ true
unfolding is_fraction
fraction v r d l h i =
    elim i.ends [
      | inl e ↦ absurd (h (nothing_over v r d (subst (Spelt v r d) e i)))
      | inr g ↦ rw (i.digits, le-leb 49 (last l) g)
    ]

-- ---- the text

-- a decimal text that denotes a / c
record Denotes (a c : ℕ) (text : List ℕ) : Type 0 where
  form : is_decimal_text text ≡ true
  value : digits_in text * c ≡ a * 10 ^ places_in text

not_point : (w : ℕ) → eqb (48 + w) 46 ≡ false
not_point w = ne_eqb (48 + w) 46 (λ e. omega arith)

parts_whole : (w : ℕ) → (whole_in ((48 + w) ∷ []) ≡ ((48 + w) ∷ [])) × (decimals_in ((48 + w) ∷ []) ≡ [])
unfolding whole_in decimals_in index_of
parts_whole w = rw (not_point w) (refl, refl)

parts_point : (w : ℕ) (l : List ℕ) → (whole_in ((48 + w) ∷ 46 ∷ l) ≡ ((48 + w) ∷ [])) × (decimals_in ((48 + w) ∷ 46 ∷ l) ≡ l)
unfolding whole_in decimals_in index_of
parts_point w l = rw (not_point w) (refl, refl)

whole_one : (w : ℕ) → w < 10 → is_whole ((48 + w) ∷ []) ≡ true
unfolding is_whole is_digits
whole_one w h = rw (digits_next w [] h refl)

number_one : (w : ℕ) (l : List ℕ) → number_from 0 (((48 + w) ∷ []) ++ l) ≡ number_from w l
unfolding number_from
number_one w l = let e : 0 * 10 + (48 + w - 48) ≡ w = omega arith in ap (λ (v : ℕ). number_from v l) e

denotes_whole : (a c w : ℕ) → w < 10 → w * c ≡ a → Denotes a c ((48 + w) ∷ [])
unfolding is_decimal_text digits_in places_in number_from
denotes_whole a c w h e =
    let p = parts_whole w in
    record {
      form = rw (whole_one w h);
      value = rw (p.0, p.1) (ap (λ (n : ℕ). n * c) (number_one w []) ∙ e ∙ sym (mul-one a));
    }

denotes_point : (a c w r : ℕ) (l : List ℕ) → w < 10 → w * c + r ≡ a → (r ≡ 0 → ⊥) → Spelt w r c l → Denotes a c ((48 + w) ∷ 46 ∷ l)
unfolding is_decimal_text digits_in places_in
denotes_point a c w r l h e z i =
    let p = parts_point w l in
    record {
      form = rw (p.0, p.1, whole_one w h, fraction w r c l z i) (or-true (is_whole ((48 + w) ∷ 46 ∷ l)));
      value = rw (p.0, p.1) (ap (λ (n : ℕ). n * c) (number_one w l) ∙ i.value ∙ ap (λ (n : ℕ). n * 10 ^ length l) e);
    }

rest_whole : (a c b : ℕ) → a * 2 ^ 72 ≡ b * c → a % c * 2 ^ 72 ≡ (b - a / c * 2 ^ 72) * c
rest_whole a c b e =
    let p : a / c * c * 2 ^ 72 + a % c * 2 ^ 72 ≡ a * 2 ^ 72 = sym (add-mul (a / c * c) (a % c) (2 ^ 72)) ∙ ap (λ (n : ℕ). n * 2 ^ 72) (div-add-mod' a c) in
    let q : a / c * 2 ^ 72 * c ≡ a / c * c * 2 ^ 72 = mul_right_comm (a / c) (2 ^ 72) c in
    less (a % c * 2 ^ 72) (a / c * 2 ^ 72) b c (omega (arith, p, q, e))

-- the expansion of a fraction below 10 that has 2 ^ 72 parts
expansion_denotes : (a c b : ℕ) → 0 < c → a < 10 * c → a * 2 ^ 72 ≡ b * c → Denotes a c (expansion a c)
unfolding expansion
expansion_denotes a c b C h e =
    let w : a / c < 10 = (div-lt_iff_lt-mul {k = c} C).1 h in
    let d : a / c * c + a % c ≡ a = div-add-mod' a c in
    rw (decimal_few (a / c) w)
    (cond_with (λ (l : List ℕ). Denotes a c ((48 + a / c) ∷ l)) (eqb (a % c) 0)
    (λ z. denotes_whole a c (a / c) w (omega (arith, d, eqb-true (a % c) 0 z)))
    (λ z.
    denotes_point a c (a / c) (a % c) (decimals 1074 (a % c) c) w d (eqb-false (a % c) 0 z)
    (spelt 72 1074 (a / c) (a % c) c (b - a / c * 2 ^ 72) C (mod-lt a C) (omega arith) (rest_whole a c b e))))

-- ---- the number

same_units : (m u n v d e : ℕ) → 0 < d → 0 < e → m * u * d ≡ n * v * e → m * u * 2 ^ 1074 / e ≡ n * v * 2 ^ 1074 / d
same_units m u n v d e D E h =
    div_same (m * u * 2 ^ 1074) e (n * v * 2 ^ 1074) d E D
    (mul_right_comm (m * u) (2 ^ 1074) d ∙ ap (λ (k : ℕ). k * 2 ^ 1074) h ∙ mul_right_comm (n * v) e (2 ^ 1074))

-- two numbers with one value have the same bits
bits_once : (x y : Float) (a c : ℕ) → 0 < c → HasValue x false a c → HasValue y false a c → to_bits binary64 x ≡ to_bits binary64 y
unfolding to_bits
bits_once nan y a c C v w = absurd v
bits_once (inf s) y a c C v w = absurd v
bits_once (fin true m e) y a c C v w = absurd (true≢false v.0)
bits_once (fin false m e) nan a c C v w = absurd w
bits_once (fin false m e) (inf t) a c C v w = absurd w
bits_once (fin false m e) (fin true n d) a c C v w = absurd (true≢false w.0)
bits_once (fin false m e) (fin false n d) a c C v w =
    let h : m * up e * down d ≡ n * up d * down e =
    eq_of_mul-eq-mul_right c C (m * up e * down d) (n * up d * down e)
    (mul_right_comm (m * up e) (down d) c ∙ ap (λ (k : ℕ). k * down d) v.1 ∙ mul_right_comm a (down e) (down d)
    ∙ ap (λ (k : ℕ). k * down e) (sym w.1) ∙ mul_right_comm (n * up d) c (down e)) in
    ap (λ (u : ℕ). 0 + (size u - 53) * 2 ^ 52 + u / 2 ^ (size u - 53)) (same_units m (up e) n (up d) (down d) (down e) (down_pos d) (down_pos e) h)

value_once : (x y : Float) (a c : ℕ) → 0 < c → T (fits binary64 x) → T (fits binary64 y) → HasValue x false a c → HasValue y false a c → x ≡ y
value_once x y a c C f g v w = bits_same x y f g (bits_once x y a c C v w)

-- a number that a cell shows is a multiple of 2 ^ -72, and rounds to itself
record Own (x : Float) : Type 0 where
  parts : ℕ
  whole : num x * 2 ^ 72 ≡ parts * den x
  back : round binary64 false (num x) (den x) ≡ x

own_zero : (x : Float) → Measured x → to_bits binary64 x ≡ 0 → Own x
unfolding of_bits of_fields odd round units span climb size
own_zero x m e =
    let z : x ≡ of_bits binary64 0 = sym (of_bits-to_bits binary64 x m.holds) ∙ ap (of_bits binary64) e in
    subst Own (sym z) (record { parts = 0; whole = refl; back = refl })

own_some : (x : Float) (b : ℕ) → Measured x → Decoded x b → Own x
own_some x b m d =
    let s : digits_of b * 2 ^ (field_of b - 1) < 2 ^ (53 + (field_of b - 1)) = shl_lt 53 (field_of b - 1) (omega arith) in
    let n : 53 + (field_of b - 1) ≤ 1074 + suc 1023 = omega (arith, d.most) in
    let v = round_exact binary64 false (num x) (den x) (digits_of b) (field_of b - 1) (den_pos x) (omega arith) (lt_of_lt_of_le s (pow_mono n)) d.value in
    record {
      parts = digits_of b * 2 ^ (field_of b - 1003);
      whole = sym (scaled_units x b d);
      back = value_once (round binary64 false (num x) (den x)) x (num x) (den x) (den_pos x) (round-fits binary64 false (num x) (den x)) m.holds v m.value;
    }

own : (x : Float) → Measured x → Own x
own x m =
    by_cases _ (eqb (to_bits binary64 x) 0) (λ z. own_zero x m (eqb-true (to_bits binary64 x) 0 z))
    (λ z. own_some x (to_bits binary64 x) m (decoded x m (eqb-false (to_bits binary64 x) 0 z)))

-- ---- the cell

-- from one fraction to an equal one
value_same : (x : Float) (a c : ℕ) → HasValue x false (num x) (den x) → a * den x ≡ num x * c → HasValue x false a c
value_same nan a c v e = v
value_same (inf s) a c v e = v
value_same (fin s m x) a c v e = (v.0, sym e)

shows : (x : Float) → Measured x → Shows x (expansion (num x) (den x))
shows x m =
    let o = own x m in
    let t = expansion (num x) (den x) in
    let d = expansion_denotes (num x) (den x) o.parts (den_pos x) (omega (arith, m.most, den_pos x)) o.whole in
    record {
      form = d.form;
      exact = value_same x (digits_in t) (10 ^ places_in t) m.value d.value;
      back = round_same binary64 false (digits_in t) (10 ^ places_in t) (num x) (den x) (one-le-pow (places_in t) 10 (omega arith)) (den_pos x) d.value ∙ o.back;
    }

is_cell : (exists : Bool) (x : Float) → Measured x → IsCell exists x (cell exists x)
unfolding cell
is_cell true x m = record { shown = λ e. shows x m; empty = λ e. absurd (true≢false e) }
is_cell false x m = record { shown = λ e. absurd (true≢false (sym e)); empty = λ e. refl }

cells_given : (counts : Counts) (summary : Summary) → is_counts counts ≡ true → summary ≡ summary_of counts → Cells summary
cells_given counts summary k e =
    record {
      mean = is_cell summary.mean_exists summary.mean (mean_given summary counts e k);
      missing = is_cell summary.missing_exists summary.missing (missing_given summary counts e k);
    }

-- THE CELL OF A NUMBER THAT EXISTS DENOTES IT EXACTLY AND READS BACK AS THE SAME BINARY64; ANY OTHER IS EMPTY
pub cell_shows : (counts : Counts) → is_counts counts ≡ true → Cells (summary_of counts)
cell_shows counts k = cells_given counts (summary_of counts) k refl

-- AND SO DO THE CELLS OF EVERY RECORD THAT `export` ACCEPTS
pub export_shows : (counts : Counts) (summary : Summary) (out : List ℕ) → T (fits binary64 summary.mean) → T (fits binary64 summary.missing)
    → (exported_of counts summary out).answer ≡ accepted → Cells summary
unfolding exported_of
export_shows counts summary out f g e =
    by_cases _ (is_counts counts)
    (λ k.
    by_cases _ (is_summary summary (summary_of counts)) (λ s. cells_given counts summary k (summary_given summary counts f g k s))
    (λ s. absurd (refused_accepted 11 (rw (k, s) at e))))
    (λ k. absurd (refused_accepted 11 (rw k at e)))
