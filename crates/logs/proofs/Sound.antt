-- What sound counts are. Assumes nothing.
use Prim.Native.Nat.{◌+◌, ◌-◌, ◌*◌, ◌≤◌}
use mathlib.Core.Path.{◌≡◌}
use mathlib.Core.Bool.{true, and-eq-true_iff}
use lib.Dec.{leb, eqb}
use borrow.Author.Tests.{leb-true, le-leb, eqb-true, eq-eqb}
use Rattle.logs.specs.declared.Counts.{Counts}
use Rattle.logs.specs.Log.{is_sound}

-- what `is_sound` tests
pub record Sound (c : Counts) : Type 0 where
  pub few : c.slots ≤ 999999
  pub each : c.slots ≡ c.read + c.noword + c.check + c.missing
  pub clean : c.clean ≤ c.read
  pub least : c.read - c.clean ≤ c.bits
  pub most : c.bits ≤ 8 * (c.read - c.clean)

pub sound : (c : Counts) → is_sound c ≡ true → Sound c
unfolding is_sound
sound c e =
    let a = (and-eq-true_iff _ (leb c.bits (8 * (c.read - c.clean)))).0 e in
    let b = (and-eq-true_iff _ (leb (c.read - c.clean) c.bits)).0 a.0 in
    let d = (and-eq-true_iff _ (leb c.clean c.read)).0 b.0 in
    let f = (and-eq-true_iff (leb c.slots 999999) (eqb c.slots (c.read + c.noword + c.check + c.missing))).0 d.0 in
    record {
      few = leb-true c.slots 999999 f.0;
      each = eqb-true c.slots (c.read + c.noword + c.check + c.missing) f.1;
      clean = leb-true c.clean c.read d.1;
      least = leb-true (c.read - c.clean) c.bits b.1;
      most = leb-true c.bits (8 * (c.read - c.clean)) a.1;
    }

pub sound_is : (c : Counts) → Sound c → is_sound c ≡ true
unfolding is_sound
sound_is c h =
    rw (
      le-leb c.slots 999999 h.few,
      eq-eqb c.slots (c.read + c.noword + c.check + c.missing) h.each,
      le-leb c.clean c.read h.clean,
      le-leb (c.read - c.clean) c.bits h.least,
      le-leb c.bits (8 * (c.read - c.clean)) h.most,
    )
