-- Tests taken apart, and the rules of a state and of a message as bounds. Assumes nothing.
use Prim.Native.Nat.{ℕ, ◌-◌, ◌*◌, ◌≤◌}
use mathlib.Core.Path.{◌≡◌, sym, ap, ◌∙◌}
use mathlib.Core.Bool.{Bool, true, false, cond, ◌&&◌, and-eq-true_iff}
use native.Mathlib.Omega.{arith}
use borrow.Author.Tests.{eqb-true, le-leb, leb-true}
use lib.Dec.{eqb, leb}
use Rattle.channel.specs.declared.Fields.{Fields}
use Rattle.group.specs.State.{length_holds, phase_holds, keeps_rule, message_fits}
use Rattle.group.specs.declared.Group.{Group}
use Rattle.group.specs.declared.Phase.{Phase}
use Rattle.group.specs.declared.Phase.TheVariants.{Idle, Gathering}

-- the message last joined on has at most the bytes held
length_room : (held messages d : ℕ) → length_holds held messages d ≡ true → d ≤ held
length_room held messages d = by_count (leb messages 1)
  where
    by_count : (one : Bool) → cond one (eqb d held) (leb d 255 && leb d held && leb (held - d) (255 * (messages - 1))) ≡ true → d ≤ held
    by_count true e = omega (arith, eqb-true d held e)
    by_count false e =
        let t = (and-eq-true_iff (leb d 255 && leb d held) (leb (held - d) (255 * (messages - 1)))).0 e in
        leb-true d held ((and-eq-true_iff (leb d 255) (leb d held)).0 t.0).1

-- what holds while gathering
pub record Gathered (held messages ci d : ℕ) : Type 0 where
  pub some : 1 ≤ messages
  pub few : messages ≤ 15
  pub room : held ≤ 255 * messages
  pub cycle : ci ≤ 3
  pub length : length_holds held messages d ≡ true

gathered : (held messages ci d : ℕ) → phase_holds Gathering held messages ci d ≡ true → Gathered held messages ci d
gathered held messages ci d e =
    let l = leb held (255 * messages) in
    let t = (and-eq-true_iff (leb 1 messages && leb messages 15 && l && leb ci 3) (length_holds held messages d)).0 e in
    let u = (and-eq-true_iff (leb 1 messages && leb messages 15 && l) (leb ci 3)).0 t.0 in
    let v = (and-eq-true_iff (leb 1 messages && leb messages 15) l).0 u.0 in
    let w = (and-eq-true_iff (leb 1 messages) (leb messages 15)).0 v.0 in
    record {
      some = leb-true 1 messages w.0;
      few = leb-true messages 15 w.1;
      room = leb-true held (255 * messages) v.1;
      cycle = leb-true ci 3 u.1;
      length = t.1;
    }

-- at most fifteen messages, 255 bytes for each, a CI of two bits, and of the bytes held those of the message last joined on
phase_room : (p : Phase) (held messages ci d : ℕ) → phase_holds p held messages ci d ≡ true → (held ≤ 255 * messages) × (messages ≤ 15) × (ci ≤ 3) × (d ≤ held)
phase_room Idle held messages ci d e =
    let t = (and-eq-true_iff (eqb held 0 && eqb messages 0 && eqb ci 0) (eqb d 0)).0 e in
    let u = (and-eq-true_iff (eqb held 0 && eqb messages 0) (eqb ci 0)).0 t.0 in
    let v = (and-eq-true_iff (eqb held 0) (eqb messages 0)).0 u.0 in
    omega (arith, eqb-true held 0 v.0, eqb-true messages 0 v.1, eqb-true ci 0 u.1, eqb-true d 0 t.1)
phase_room Gathering held messages ci d e =
    let n = gathered held messages ci d e in
    (n.room, n.few, n.cycle, length_room held messages d n.length)

rule_phase : (g : Group) → keeps_rule g ≡ true → phase_holds g.phase g.held g.messages g.ci g.last_length ≡ true
unfolding keeps_rule
rule_phase g e = ((and-eq-true_iff (leb g.number 16383) (phase_holds g.phase g.held g.messages g.ci g.last_length)).0 e).1

pub rule_room : (g : Group) → keeps_rule g ≡ true → (g.held ≤ 255 * g.messages) × (g.messages ≤ 15) × (g.ci ≤ 3) × (g.last_length ≤ g.held)
rule_room g e = phase_room g.phase g.held g.messages g.ci g.last_length (rule_phase g e)

pub rule_gathered : (g : Group) → keeps_rule g ≡ true → g.phase ≡ Gathering → Gathered g.held g.messages g.ci g.last_length
rule_gathered g e p =
    gathered g.held g.messages g.ci g.last_length (sym (ap (λ (q : Phase). phase_holds q g.held g.messages g.ci g.last_length) p) ∙ rule_phase g e)

-- after one message its bytes are all that are held
pub only_one : (held messages d : ℕ) → messages ≤ 1 → length_holds held messages d ≡ true → d ≡ held
only_one held messages d h e = eqb-true d held (sym (rw (le-leb messages 1 h)) ∙ e)

pub within_bounds : (m : Fields) (d : ℕ) → message_fits m d ≡ true → (m.number ≤ 16383) × (d ≤ 255) × (m.ri ≤ 3) × (m.ci ≤ 3)
unfolding message_fits
within_bounds m d e =
    let n = leb m.number 16383 in
    let t = (and-eq-true_iff (n && leb d 255 && leb m.ri 3) (leb m.ci 3)).0 e in
    let u = (and-eq-true_iff (n && leb d 255) (leb m.ri 3)).0 t.0 in
    let v = (and-eq-true_iff n (leb d 255)).0 u.0 in
    (leb-true m.number 16383 v.0, leb-true d 255 v.1, leb-true m.ri 3 u.1, leb-true m.ci 3 t.1)

pub fits_true : (m : Fields) (d : ℕ) → m.number ≤ 16383 → d ≤ 255 → m.ri ≤ 3 → m.ci ≤ 3 → message_fits m d ≡ true
unfolding message_fits
fits_true m d hn hd hr hc = rw (le-leb _ _ hn, le-leb _ _ hd, le-leb _ _ hr, le-leb _ _ hc)
