-- Laws that several proofs of this crate cite. Assumes nothing.
use Prim.Native.Nat.{ℕ, ◌+◌, ◌-◌, ◌%◌, ◌^◌, ◌≤◌, ◌<◌}
use mathlib.Core.Path.{◌≡◌, ap, ◌∙◌}
use mathlib.Core.Bool.{Bool, true, false, ◌&&◌, and-eq-true_iff}
use native.Mathlib.Omega.{arith}
use borrow.Author.Tests.{eqb-true, leb-true}
use lib.Dec.{eqb, leb}
use Rattle.header.specs.Header.{check}
use Rattle.header.proofs.Bits.{check_wider}
use Rattle.channel.specs.Layer4.{size_of}
use Rattle.channel.specs.State.{keeps_rule, phase_holds}
use Rattle.channel.specs.declared.Channel.{Channel}
use Rattle.channel.specs.declared.Phase.{Phase}
use Rattle.channel.specs.declared.Phase.TheVariants.{Waiting, Ready, Gathering}

-- a state that keeps its rule holds at most 260 bytes, in twenties
phase_bytes : (p : Phase) (n sc : ℕ) → phase_holds p n sc ≡ true → (n ≤ 260) × (n % 20 ≡ 0)
phase_bytes Waiting n sc e = let h = eqb-true n 0 ((and-eq-true_iff (eqb n 0) (eqb sc 0)).0 e).0 in omega arith
phase_bytes Ready n sc e = let h = eqb-true n 0 e in omega arith
phase_bytes Gathering n sc e =
    let t = (and-eq-true_iff (leb 20 n && leb n 260) (eqb (n % 20) 0)).0 e in
    (leb-true n 260 ((and-eq-true_iff (leb 20 n) (leb n 260)).0 t.0).1, eqb-true (n % 20) 0 t.1)

module _ (c : Channel) (e : keeps_rule c ≡ true) where
  parts : (leb c.expected 15 ≡ true) × (phase_holds c.phase c.gathered c.expected ≡ true)
  unfolding keeps_rule
  parts = (and-eq-true_iff (leb c.expected 15) (phase_holds c.phase c.gathered c.expected)).0 e

  pub rule_bytes : (c.gathered ≤ 260) × (c.gathered % 20 ≡ 0)
  rule_bytes = phase_bytes c.phase c.gathered c.expected parts.1

  pub rule_sc : c.expected < 16
  rule_sc = let h = leb-true c.expected 15 parts.0 in omega arith

-- a header has four or five bytes
pub size_room : (ext : Bool) → (size_of ext ≤ 5) × (4 ≤ size_of ext)
size_room true = omega arith
size_room false = omega arith

-- the check over all 64 bits is that over a header's own
pub check_at : (n x : ℕ) → n ≤ 64 → x < 2 ^ n → check 64 x ≡ check n x
check_at n x h l = let e : 64 ≡ n + (64 - n) = omega arith in ap (λ (m : ℕ). check m x) e ∙ check_wider n (64 - n) x l
