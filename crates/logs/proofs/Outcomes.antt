-- One slot more keeps counts sound, and every good line does. Assumes nothing.
use Prim.Native.Nat.{ℕ, suc, zero, ◌+◌, ◌-◌, ◌*◌, ◌<◌, ◌≤◌}
use mathlib.Core.Path.{◌≡◌, refl, ap, sym, ◌∙◌, subst}
use mathlib.Core.Bool.{true, false, cond, ◌&&◌, and-eq-true_iff}
use mathlib.Core.List.{List}
use native.Mathlib.Omega.{arith}
use lib.Dec.{eqb, ltb}
use borrow.Author.Tests.{le-leb, eqb-true, ltb-true, ne_eqb}
use Rattle.std.specs.Prelude.{Option, Some, None, IfSome}
use Rattle.std.specs.Option.{option_map}
use Rattle.text.specs.Fields.{same_as}
use Rattle.band.specs.Band.{is_channel}
use Rattle.band.proofs.Laws.{within}
use Rattle.logs.specs.declared.Counts.{Counts}
use Rattle.logs.specs.Log.{is_corrected, is_outcome, one, counted, tuned, is_sound, channel_up_to, first_line, slot_line, last, is_next, judged}
use Rattle.logs.specs.Reader.{is_before}
use Rattle.logs.proofs.Lists.{cond_with, by_cases}
use Rattle.logs.proofs.Sound.{Sound, sound, sound_is}
use Rattle.logs.proofs.Lines.{channel_line}

-- by cases on an outcome: `0` to `8`, `n`, `c`, `-`
pub outcome_with : (P : ℕ → Type 0) → ((bits : ℕ) → bits ≤ 8 → P (48 + bits)) → P 110 → P 99 → P 45
    → (o : ℕ) → is_outcome o ≡ true → P o
unfolding is_outcome
outcome_with P d n c m o e =
    by_cases (P o) (is_corrected o)
    (λ h.
    let r = within 48 o 56 h in
    let w : 48 + (o - 48) ≡ o = omega (arith, r.0) in
    subst P w (d (o - 48) (omega (arith, r.1))))
    (λ h. by_cases (P o) (eqb o 110) (λ k. subst P (sym (eqb-true o 110 k)) n)
    (λ i. by_cases (P o) (eqb o 99) (λ k. subst P (sym (eqb-true o 99 k)) c)
    (λ j. subst P (sym (eqb-true o 45 (rw (h, i, j) at e))) m)))

-- what a block that was read counts
pub counted_read : (c : Counts) (bits : ℕ) → bits ≤ 8
    → counted c (48 + bits)
    ≡ record {
      channel = c.channel;
      slots = c.slots + 1;
      read = c.read + 1;
      clean = c.clean + one (eqb bits 0);
      bits = c.bits + bits;
      noword = c.noword + 0;
      check = c.check + 0;
      missing = c.missing + 0;
    }
unfolding counted
counted_read c bits h =
    let e : 48 + bits - 48 ≡ bits = omega arith in
    rw (
      le-leb 48 (48 + bits) (omega arith),
      le-leb (48 + bits) 56 (omega arith),
      ne_eqb (48 + bits) 110 (λ z. omega arith),
      ne_eqb (48 + bits) 99 (λ z. omega arith),
      ne_eqb (48 + bits) 45 (λ z. omega arith),
      e,
      zero_digit bits,
    )
  where
    zero_digit : (b : ℕ) → eqb (48 + b) 48 ≡ eqb b 0
    zero_digit zero = refl
    zero_digit (suc b) = ne_eqb (48 + suc b) 48 (λ z. omega arith) ∙ sym (ne_eqb (suc b) 0 (λ z. omega arith))

-- one slot more, of one kind
more_sound : (c : Counts) (r k b n w m : ℕ) → r + n + w + m ≡ 1 → k ≤ r → r - k ≤ b → b ≤ 8 * (r - k) → c.slots < 999999 → Sound c
    → Sound
    (record {
      channel = c.channel;
      slots = c.slots + 1;
      read = c.read + r;
      clean = c.clean + k;
      bits = c.bits + b;
      noword = c.noword + n;
      check = c.check + w;
      missing = c.missing + m;
    })
more_sound c r k b n w m e f g j h s =
    record {
      few = omega arith;
      each = omega (arith, s.each);
      clean = omega (arith, s.clean);
      least = omega (arith, s.least, s.clean);
      most = omega (arith, s.most, s.clean);
    }

clean_bits : (bits : ℕ) → bits ≤ 8 → (one (eqb bits 0) ≤ 1) × (1 - one (eqb bits 0) ≤ bits) × (bits ≤ 8 * (1 - one (eqb bits 0)))
clean_bits zero h = (omega arith, omega arith, omega arith)
clean_bits (suc bits) h =
    let k : one (eqb (suc bits) 0) ≡ 0 = ap one (ne_eqb (suc bits) 0 (λ e. omega arith)) in
    (omega arith, omega arith, omega arith)

counted_sound : (o : ℕ) → is_outcome o ≡ true → (c : Counts) → c.slots < 999999 → Sound c → Sound (counted c o)
unfolding counted
counted_sound =
    outcome_with (λ (o : ℕ). (c : Counts) → c.slots < 999999 → Sound c → Sound (counted c o))
    (λ bits b c h s.
    let k = clean_bits bits b in
    rw (counted_read c bits b) (more_sound c 1 (one (eqb bits 0)) bits 0 0 0 (omega arith) k.0 k.1 k.2 h s))
    (λ c h s. more_sound c 0 0 0 1 0 0 (omega arith) (omega arith) (omega arith) (omega arith) h s)
    (λ c h s. more_sound c 0 0 0 0 1 0 (omega arith) (omega arith) (omega arith) (omega arith) h s)
    (λ c h s. more_sound c 0 0 0 0 0 1 (omega arith) (omega arith) (omega arith) (omega arith) h s)

-- what `is_next` tests
pub record Next (slots : ℕ) (line : List ℕ) : Type 0 where
  pub few : slots < 999999
  pub outcome : is_outcome (last line) ≡ true
  pub text : same_as line (slot_line (slots + 1) (last line)) ≡ true

pub next : (slots : ℕ) (line : List ℕ) → is_next slots line ≡ true → Next slots line
unfolding is_next
next n l e =
    let a = (and-eq-true_iff (ltb n 999999 && is_outcome (last l)) (same_as l (slot_line (n + 1) (last l)))).0 e in
    let b = (and-eq-true_iff (ltb n 999999) (is_outcome (last l))).0 a.0 in
    record { few = ltb-true n 999999 b.0; outcome = b.1; text = a.1 }

tuned_before : (n : ℕ) → n ≤ 204 → is_before (tuned n) ≡ true
unfolding is_before is_sound
tuned_before zero h = refl
tuned_before (suc n) h = rw (ne_eqb (suc n) 0 (λ e. omega arith), le-leb 1 (suc n) (omega arith), le-leb (suc n) 204 h)

-- counts before a line: sound, and what the channel says
pub before_sound : (c : Counts) → is_before c ≡ true → is_sound c ≡ true
unfolding is_before
before_sound c e = ((and-eq-true_iff (is_sound c) (cond (eqb c.channel 0) (eqb c.slots 0) (is_channel c.channel))).0 e).0

counted_before : (c : Counts) (o : ℕ) → is_outcome o ≡ true → c.slots < 999999 → eqb c.channel 0 ≡ false → is_before c ≡ true
    → is_before (counted c o) ≡ true
unfolding is_before counted
counted_before c o h k z e =
    let a = (and-eq-true_iff (is_sound c) (cond (eqb c.channel 0) (eqb c.slots 0) (is_channel c.channel))).0 e in
    let i : is_channel c.channel ≡ true = rw z at a.1 in
    rw (sound_is (counted c o) (counted_sound o h c k (sound c a.0)), z) i

tuned_map : (o : Option ℕ) (l : List ℕ) → IfSome o (λ k. (1 ≤ k) × (k ≤ 204) × (l ≡ first_line k)) → IfSome (option_map tuned o) (λ d. is_before d ≡ true)
tuned_map None l h = tt
tuned_map (Some k) l h = tuned_before k h.1

-- A GOOD LINE LEAVES COUNTS BEFORE A LINE
pub judged_before : (c : Counts) (l : List ℕ) → is_before c ≡ true → IfSome (judged c l) (λ d. is_before d ≡ true)
unfolding judged
judged_before c l e =
    cond_with (λ (o : Option Counts). IfSome o (λ d. is_before d ≡ true)) (eqb c.channel 0) (λ z. tuned_map (channel_up_to 204 l) l (channel_line 204 l))
    (λ z. cond_with (λ (o : Option Counts). IfSome o (λ d. is_before d ≡ true)) (is_next c.slots l)
    (λ n. let t = next c.slots l n in counted_before c (last l) t.outcome t.few z e)
    (λ n. tt))

-- before the first line nothing is counted
pub none_before : (c : Counts) → is_before c ≡ true → eqb c.channel 0 ≡ true → c ≡ tuned 0
unfolding is_before
none_before c b e =
    let a = (and-eq-true_iff (is_sound c) (cond (eqb c.channel 0) (eqb c.slots 0) (is_channel c.channel))).0 b in
    let s = sound c a.0 in
    let n : c.slots ≡ 0 = eqb-true c.slots 0 (rw e at a.1) in
    let h : c.channel ≡ 0 = eqb-true c.channel 0 e in
    let read : c.read ≡ 0 = omega (arith, s.each) in
    let clean : c.clean ≡ 0 = omega (arith, s.clean) in
    let bits : c.bits ≡ 0 = omega (arith, s.most) in
    let noword : c.noword ≡ 0 = omega (arith, s.each) in
    let check : c.check ≡ 0 = omega (arith, s.each) in
    let missing : c.missing ≡ 0 = omega (arith, s.each) in
    λ i. record { channel = h i; slots = n i; read = read i; clean = clean i; bits = bits i; noword = noword i; check = check i; missing = missing i }
