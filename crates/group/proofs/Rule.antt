-- A STATE THAT KEEPS ITS RULE STILL KEEPS IT AFTER ANY MESSAGE, and a fresh one keeps it. Assumes nothing.
use Prim.Native.Nat.{ℕ, ◌+◌, ◌-◌, ◌*◌, ◌%◌, ◌≤◌, ◌<◌}
use mathlib.Core.Path.{◌≡◌, refl}
use mathlib.Core.Bool.{Bool, true, false, not, cond, ◌&&◌, and-eq-true_iff}
use mathlib.Core.List.{List}
use native.Mathlib.Omega.{arith}
use borrow.Author.Tests.{eq-eqb, le-leb, leb-true, ltb-true}
use lib.Dec.{eqb, leb, ltb}
use lib.ListN.{length}
use Rattle.channel.specs.declared.Fields.{Fields}
use Rattle.answers.proofs.Rules.{unless_elim, cond_with}
use Rattle.group.specs.Answers.{GroupAfter, Made}
use Rattle.group.specs.State.{group_with, idle, new_of, length_holds, phase_holds, keeps_rule, message_fits, is_idle, is_repeat, joined_on, join_of}
use Rattle.group.specs.declared.Group.{Group}
use Rattle.group.specs.declared.Phase.TheVariants.{Gathering}
use Rattle.group.proofs.Laws.{rule_room, within_bounds}

pub rule_number : (g : Group) → keeps_rule g ≡ true → g.number ≤ 16383
unfolding keeps_rule
rule_number g e = leb-true g.number 16383 ((and-eq-true_iff (leb g.number 16383) (phase_holds g.phase g.held g.messages g.ci g.last_length)).0 e).0

pub idle_rule : (number : ℕ) → number ≤ 16383 → keeps_rule (idle number) ≡ true
unfolding keeps_rule
idle_rule number h = rw (le-leb _ _ h)

-- one message more
length_holds_lem : (held messages d : ℕ) → held ≤ 255 * messages → d ≤ 255 → length_holds (held + d) (messages + 1) d ≡ true
length_holds_lem held messages d hh hd = by_count (leb (messages + 1) 1) refl
  where
    by_count : (one : Bool) → leb (messages + 1) 1 ≡ one → cond one (eqb d (held + d)) (leb d 255 && leb d (held + d) && leb (held + d - d) (255 * (messages + 1 - 1))) ≡ true
    by_count true e = let all : d ≡ held + d = omega (arith, leb-true (messages + 1) 1 e) in eq-eqb d (held + d) all
    by_count false e =
        let p : d ≤ held + d = omega arith in
        let q : held + d - d ≤ 255 * (messages + 1 - 1) = omega arith in
        rw (le-leb _ _ hd, le-leb _ _ p, le-leb _ _ q)

pub gathering_rule : (number held messages d ci : ℕ) → number ≤ 16383 → held ≤ 255 * messages → messages < 15 → d ≤ 255 → ci ≤ 3
    → keeps_rule (group_with number Gathering (held + d) (messages + 1) ci d) ≡ true
unfolding keeps_rule
gathering_rule number held messages d ci hn hh hm hd hc =
    let a : 1 ≤ messages + 1 = omega arith in
    let b : messages + 1 ≤ 15 = omega arith in
    let e : held + d ≤ 255 * (messages + 1) = omega arith in
    rw (le-leb _ _ hn, le-leb _ _ a, le-leb _ _ b, le-leb _ _ e, le-leb _ _ hc) (length_holds_lem held messages d hh hd)

abbrev Kept : GroupAfter → Type 0
Kept l = keeps_rule l.group ≡ true

module _ (m : Fields) (s buffer : List ℕ) (fits : message_fits m (length s) ≡ true) where
  joined_kept : (g : Group) → g.number ≤ 16383 → g.held ≤ 255 * g.messages → g.messages < 15 → Kept (joined_on g m s buffer)
  unfolding joined_on
  joined_kept g hn hh hm =
      let b = within_bounds m (length s) fits in
      cond_with Kept m.last (λ _. idle_rule g.number hn)
      λ _. gathering_rule g.number g.held g.messages (length s) m.ci hn hh hm b.1 b.3

pub rule_kept : (g : Group) (m : Fields) (s buffer : List ℕ) → keeps_rule g ≡ true → keeps_rule (join_of g m s buffer).group ≡ true
unfolding join_of
rule_kept g m s buffer rule =
    let n = rule_number g rule in
    let idles = idle_rule g.number n in
    unless_elim Kept (leb 3825 (length buffer)) _ _ rule λ _.
    unless_elim Kept (keeps_rule g) _ _ rule λ _.
    unless_elim Kept (message_fits m (length s)) _ _ rule λ fits.
    unless_elim Kept (eqb m.number g.number) _ _ rule λ _.
    unless_elim Kept (not m.command) _ _ rule λ _.
    cond_with Kept (is_repeat g m s buffer) (λ _. rule) λ _.
    cond_with Kept m.first (λ _. joined_kept m s buffer fits (idle g.number) n (omega arith) (omega arith)) λ _.
    unless_elim Kept (not (is_idle g.phase)) _ _ idles λ _.
    unless_elim Kept (eqb m.ci ((g.ci + 1) % 4)) _ _ idles λ _.
    unless_elim Kept (ltb g.messages 15) _ _ idles λ l.
    joined_kept m s buffer fits g n (rule_room g rule).0 (ltb-true g.messages 15 l)

pub new_rule : (number : ℕ) → keeps_rule (new_of number).group ≡ true
unfolding new_of
new_rule number =
    unless_elim (λ (r : Made). keeps_rule r.group ≡ true) (leb number 16383) _ _ (idle_rule 0 (omega arith)) λ e.
    idle_rule number (leb-true number 16383 e)
