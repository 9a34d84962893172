-- Numbers with the same bits are the same, and what is no number has other bits. Assumes nothing.
use mathlib.Core.Path.{◌≡◌, refl, ap, sym, ◌∙◌, subst}
use mathlib.Core.Bool.{true, false, not, beq, ◌&&◌, true≢false, and-eq-true_iff}
use native.Mathlib.Omega.{arith}
use lib.Dec.{T}
use lib.Ieee.{Float, nan, inf, fin, binary64, fits, is_nan, of_bits, to_bits}
use lib.Ieee.Bits.{of_bits-to_bits}
use lib.Ieee.Fits.{nan-fits}
use lib.Ieee.Exact.{HasValue}
use lib.Ieee.Positive.{num, den}
use borrow.Author.Tests.{eqb-true, ne_eqb}
use Rattle.answers.proofs.Rules.{beq_true}
use Rattle.logs.specs.declared.Counts.{Counts}
use Rattle.logs.specs.Log.{is_counts}
use Rattle.summary.specs.declared.Summary.{Summary}
use Rattle.summary.specs.Summary.{share, summary_of}
use Rattle.summary.specs.Export.{same_bits, is_summary}
use Rattle.summary.specs.Building.{Measured}
use Rattle.summary.proofs.Quotient.{bounds, measured_share}

-- there is one NaN
pub nan_is : (x : Float) → is_nan x ≡ true → x ≡ nan
unfolding is_nan
nan_is nan e = refl
nan_is (inf s) e = absurd (true≢false (sym e))
nan_is (fin s m x) e = absurd (true≢false (sym e))

pub measured_number : (x : Float) → Measured x → T (not (is_nan x))
unfolding is_nan
measured_number nan m = absurd m.value
measured_number (inf s) m = absurd m.value
measured_number (fin s n x) m = tt

measured_not : (x : Float) → Measured x → x ≡ nan → ⊥
measured_not x m e = subst (λ (y : Float). HasValue y false (num x) (den x)) e m.value

-- the same bits, the same number
pub bits_same : (x y : Float) → T (fits binary64 x) → T (fits binary64 y) → to_bits binary64 x ≡ to_bits binary64 y → x ≡ y
bits_same x y h k e = sym (of_bits-to_bits binary64 x h) ∙ ap (of_bits binary64) e ∙ of_bits-to_bits binary64 y k

pub nan_bits : (x y : Float) → x ≡ nan → Measured y → same_bits x y ≡ false
nan_bits x y e m =
    ne_eqb (to_bits binary64 x) (to_bits binary64 y)
    (λ b. measured_not y m (sym (bits_same nan y (nan-fits binary64) m.holds (ap (to_bits binary64) (sym e) ∙ b))))

-- the numbers of a summary
mean_measured : (c : Counts) → is_counts c ≡ true → Measured (share c.bits c.read)
mean_measured c e =
    let s = bounds c e in
    measured_share c.bits c.read (omega (arith, s.few, s.each)) (omega (arith, s.most))

missing_measured : (c : Counts) → is_counts c ≡ true → Measured (share c.missing c.slots)
missing_measured c e =
    let s = bounds c e in
    measured_share c.missing c.slots s.few (omega (arith, s.each))

-- a record that passes the test is the summary
summary_same : (s t : Summary) → T (fits binary64 s.mean) → T (fits binary64 s.missing) → T (fits binary64 t.mean) → T (fits binary64 t.missing)
    → is_summary s t ≡ true → s ≡ t
unfolding is_summary
summary_same s t f g h k e =
    let a = (and-eq-true_iff (beq s.mean_exists t.mean_exists && same_bits s.mean t.mean && beq s.missing_exists t.missing_exists) (same_bits s.missing t.missing)).0 e in
    let b = (and-eq-true_iff (beq s.mean_exists t.mean_exists && same_bits s.mean t.mean) (beq s.missing_exists t.missing_exists)).0 a.0 in
    let d = (and-eq-true_iff (beq s.mean_exists t.mean_exists) (same_bits s.mean t.mean)).0 b.0 in
    let p = beq_true s.mean_exists t.mean_exists d.0 in
    let q = bits_same s.mean t.mean f h (eqb-true (to_bits binary64 s.mean) (to_bits binary64 t.mean) d.1) in
    let r = beq_true s.missing_exists t.missing_exists b.1 in
    let u = bits_same s.missing t.missing g k (eqb-true (to_bits binary64 s.missing) (to_bits binary64 t.missing) a.1) in
    λ i. record { mean_exists = p i; mean = q i; missing_exists = r i; missing = u i }

pub mean_given : (s : Summary) (c : Counts) → s ≡ summary_of c → is_counts c ≡ true → Measured s.mean
unfolding summary_of
mean_given s c e k = subst (λ (t : Summary). Measured t.mean) (sym e) (mean_measured c k)

pub missing_given : (s : Summary) (c : Counts) → s ≡ summary_of c → is_counts c ≡ true → Measured s.missing
unfolding summary_of
missing_given s c e k = subst (λ (t : Summary). Measured t.missing) (sym e) (missing_measured c k)

-- the record handed in, once it passed the test
pub summary_given : (s : Summary) (c : Counts) → T (fits binary64 s.mean) → T (fits binary64 s.missing) → is_counts c ≡ true
    → is_summary s (summary_of c) ≡ true → s ≡ summary_of c
unfolding summary_of
summary_given s c f g k e = summary_same s (summary_of c) f g (mean_measured c k).holds (missing_measured c k).holds e
