-- Counts turn into binary64 without loss; a quotient of two is finite, not negative, at most 8, and 0 or at least 2 ^ -20. Assumes nothing.
use Prim.Native.Nat.{ℕ, suc, zero, ◌*◌, ◌^◌, ◌<◌, ◌≤◌}
use mathlib.Core.Path.{◌≡◌, refl, ap, sym, ◌∙◌, subst}
use mathlib.Core.Logic.{inl, inr}
use mathlib.Core.Bool.{true, false, true≢false, and-eq-true_iff}
use native.Mathlib.Nat.{mul_comm, mul_assoc, mul_left_comm, mul-one, zero-mul, lt_irrefl, mul-pos}
use native.Mathlib.Omega.{arith}
use lib.Dec.{T, lit<}
use lib.IntN.{pos}
use lib.Pow.{pow_pos}
use lib.Ieee.{Float, nan, inf, fin, binary64, up, down, fits, round, units, span, climb, size, odd, of_int, of_bits, of_fields, div, le}
use lib.Ieee.Exact.{HasValue, round_exact}
use lib.Ieee.Back.{round_whole}
use lib.Ieee.Fits.{down_pos, round-fits}
use lib.Ieee.Order.{round_mono}
use lib.Ieee.Scale.{round_same}
use lib.Ieee.Positive.{num, den, own_value, positive_of_value, between, values_of_le}
use borrow.Author.Tests.{ne_eqb}
use Rattle.logs.proofs.Sound.{Sound, sound}
use Rattle.logs.specs.declared.Counts.{Counts}
use Rattle.logs.specs.Log.{is_counts, is_sound}
use Rattle.band.specs.Band.{is_channel}
use Rattle.summary.specs.Summary.{turned, quotient, share, WithoutLoss}
use Rattle.summary.specs.Building.{Measured}

div_at : (x y : Float) (a b : ℕ) → HasValue x false a 1 → HasValue y false b 1 → 1 ≤ b → div binary64 x y ≡ round binary64 false a b
unfolding div
div_at nan y a b p q h = absurd p
div_at (inf s) y a b p q h = absurd p
div_at (fin true m e) y a b p q h = absurd (true≢false p.0)
div_at (fin false m e) nan a b p q h = absurd q
div_at (fin false m e) (inf t) a b p q h = absurd q
div_at (fin false m e) (fin true n d) a b p q h = absurd (true≢false q.0)
div_at (fin false m e) (fin false n d) a b p q h =
    let P : m * up e ≡ a * down e = sym (mul-one (m * up e)) ∙ p.1 in
    let Q : n * up d ≡ b * down d = sym (mul-one (n * up d)) ∙ q.1 in
    let o : 0 < n * up d = subst (λ (k : ℕ). 0 < k) (sym Q) (mul-pos h (down_pos d)) in
    let c : m * up e * down d * b ≡ a * (n * up d * down e) =
    ap (λ (k : ℕ). k * down d * b) P ∙ same a (down e) (down d) b ∙ ap (λ (k : ℕ). a * (k * down e)) (sym Q) in
    rw (ne_eqb n 0 (λ z. some n (up d) o z))
    (round_same binary64 false (m * up e * down d) (n * up d * down e) a b (mul-pos o (down_pos e)) h c)
  where
    same : (a e d b : ℕ) → a * e * d * b ≡ a * (b * d * e)
    same a e d b = simp (mul_assoc, mul_comm, mul_left_comm)

    some : (n u : ℕ) → 0 < n * u → n ≡ 0 → ⊥
    some n u h z = lt_irrefl 0 (subst (λ (k : ℕ). 0 < k) (ap (λ (k : ℕ). k * u) z ∙ zero-mul u) h)

turned_whole : (n : ℕ) → n ≤ 2 ^ 53 → HasValue (turned n) false n 1
unfolding of_int
turned_whole n h = round_whole binary64 false n h

quotient_round : (a b : ℕ) → a ≤ 2 ^ 53 → b ≤ 2 ^ 53 → 1 ≤ b → quotient a b ≡ round binary64 false a b
quotient_round a b h k o = div_at (turned a) (turned b) a b (turned_whole a h) (turned_whole b k) o

-- the bounds of counts that an accepted log gives
pub bounds : (c : Counts) → is_counts c ≡ true → Sound c
unfolding is_counts
bounds c e = sound c ((and-eq-true_iff (is_channel c.channel) (is_sound c)).0 e).1

-- WHAT IS DIVIDED TURNS INTO BINARY64 WITHOUT LOSS
pub without_loss : (counts : Counts) → is_counts counts ≡ true → WithoutLoss counts
without_loss counts e =
    let s = bounds counts e in
    record {
      bits = turned_whole counts.bits (omega (arith, s.few, s.each, s.most));
      read = turned_whole counts.read (omega (arith, s.few, s.each));
      missing = turned_whole counts.missing (omega (arith, s.few, s.each));
      slots = turned_whole counts.slots (omega (arith, s.few));
    }

-- 2 ^ -20 and 8
least_value : HasValue (round binary64 false 1 (2 ^ 20)) false 1 (2 ^ 20)
least_value = round_exact binary64 false 1 (2 ^ 20) 1 1054 (pow_pos 20) (omega arith) (lit< tt) refl

most_value : HasValue (round binary64 false 8 1) false 8 1
most_value = round_whole binary64 false 8 (omega arith)

-- by the order of rounding
measured_round : (a b : ℕ) → 1 ≤ a → 1 ≤ b → b ≤ a * 2 ^ 20 → a ≤ 8 * b → Measured (round binary64 false a b)
measured_round a b h k l m =
    let x = round binary64 false a b in
    let lo = round binary64 false 1 (2 ^ 20) in
    let hi = round binary64 false 8 1 in
    let below : T (le lo x) = round_mono binary64 1 (2 ^ 20) a b (pow_pos 20) k (omega arith) in
    let above : T (le x hi) = round_mono binary64 a b 8 1 k (omega arith) (omega arith) in
    let lp = positive_of_value lo 1 (2 ^ 20) least_value (omega arith) in
    let hp = positive_of_value hi 8 1 most_value (omega arith) in
    let p = between lo x hi lp hp below above in
    let v = own_value x p in
    let g = values_of_le lo x 1 (2 ^ 20) (num x) (den x) lp p least_value v below in
    let f = values_of_le x hi (num x) (den x) 8 1 p hp v most_value above in
    record { holds = round-fits binary64 false a b; value = v; most = omega (arith, f); least = inr (omega (arith, g)) }

zero_round : round binary64 false 0 1 ≡ fin false 0 (pos 0)
unfolding round units span climb size odd
zero_round = refl

measured_zero : (b : ℕ) → 1 ≤ b → Measured (round binary64 false 0 b)
unfolding fits
measured_zero b h =
    subst Measured (sym (round_same binary64 false 0 b 0 1 h (omega arith) (omega arith) ∙ zero_round))
    (record { holds = tt; value = (refl, refl); most = omega arith; least = inl refl })

-- EVERY SHARE OF A COUNT IS MEASURED
measured : (a b : ℕ) → 1 ≤ b → b ≤ 999999 → a ≤ 8 * b → Measured (quotient a b)
measured zero b h k m = subst Measured (sym (quotient_round 0 b (omega arith) (omega arith) h)) (measured_zero b h)
measured (suc a) b h k m =
    subst Measured (sym (quotient_round (suc a) b (omega arith) (omega arith) h))
    (measured_round (suc a) b (omega arith) h (omega arith) m)

-- A NUMBER OF THE SUMMARY IS MEASURED, ALSO WITH A CLEAR FLAG
pub measured_share : (a b : ℕ) → b ≤ 999999 → a ≤ 8 * b → Measured (share a b)
unfolding of_bits of_fields odd fits
measured_share a zero h m = record { holds = tt; value = (refl, refl); most = omega arith; least = inl refl }
measured_share a (suc b) h m = rw (ne_eqb (suc b) 0 (λ e. omega arith)) (measured a (suc b) (omega arith) h m)
