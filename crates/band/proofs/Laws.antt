-- Channels and frequencies: their ranges, and that the conversions undo each other. Assumes nothing.
use Prim.Native.Nat.{ℕ, ◌+◌, ◌-◌, ◌*◌, ◌/◌, ◌%◌, ◌≤◌}
use mathlib.Core.Path.{◌≡◌}
use mathlib.Core.Bool.{true, ◌&&◌, and-eq-true_iff}
use lib.Dec.{leb, eqb}
use borrow.Author.Tests.{leb-true, le-leb, eqb-true}
use native.Mathlib.Omega.{arith}
use Rattle.answers.specs.Numbers.{accepted}
use Rattle.band.specs.Band.{is_channel, is_frequency, kilohertz_of, channel_of}

pub within : (a n b : ℕ) → (leb a n && leb n b) ≡ true → (a ≤ n) × (n ≤ b)
within a n b e = let t = (and-eq-true_iff (leb a n) (leb n b)).0 e in (leb-true a n t.0, leb-true n b t.1)

pub in_range : (n : ℕ) → is_channel n ≡ true → (1 ≤ n) × (n ≤ 204)
in_range n e = within 1 n 204 e

pub in_band : (f : ℕ) → is_frequency f ≡ true → (87600 ≤ f) × (f ≤ 107900) × (f % 100 ≡ 0)
in_band f e =
    let a = (and-eq-true_iff (leb 87600 f && leb f 107900) (eqb (f % 100) 0)).0 e in
    let b = within 87600 f 107900 a.0 in
    (b.0, b.1, eqb-true (f % 100) 0 a.1)

-- A CHANNEL'S FREQUENCY IS THAT CHANNEL'S
pub channel_back : (n : ℕ) → is_channel n ≡ true → channel_of (record { 0 = 87500 + 100 * n }) ≡ record { answer = accepted; number = n }
channel_back n e =
    let r = in_range n e in
    let f : (87500 + 100 * n) % 100 ≡ 0 = omega (arith, r.0) in
    let b : (87500 + 100 * n - 87500) / 100 ≡ n = omega (arith, r.0) in
    rw (le-leb 87600 (87500 + 100 * n) (omega arith), le-leb (87500 + 100 * n) 107900 (omega arith), f, b)

pub in_channels : (f : ℕ) → is_frequency f ≡ true → is_channel ((f - 87500) / 100) ≡ true
in_channels f e =
    let r = in_band f e in
    rw (le-leb 1 ((f - 87500) / 100) (omega (arith, r.0)), le-leb ((f - 87500) / 100) 204 (omega (arith, r.1)))

-- AND A FREQUENCY'S CHANNEL HAS THAT FREQUENCY
pub frequency_back : (f : ℕ) → is_frequency f ≡ true → kilohertz_of (record { 0 = (f - 87500) / 100 }) ≡ record { answer = accepted; number = f }
frequency_back f e =
    let r = in_band f e in
    let n : 87500 + 100 * ((f - 87500) / 100) ≡ f = omega (arith, r.0, r.1, r.2) in
    rw (in_channels f e, n)
