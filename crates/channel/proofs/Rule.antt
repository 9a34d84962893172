-- A STATE THAT KEEPS ITS RULE STILL KEEPS IT AFTER ANY STEP. Assumes nothing.
use Prim.Native.Nat.{ℕ, ◌+◌, ◌%◌, ◌≤◌}
use mathlib.Core.Path.{◌≡◌, refl}
use mathlib.Core.Bool.{Bool, true, false, not}
use mathlib.Core.List.{List}
use native.Mathlib.Omega.{arith}
use borrow.Author.Tests.{eq-eqb, le-leb, ltb-true}
use lib.Dec.{eqb, ltb}
use lib.ListN.{length}
use Rattle.answers.proofs.Rules.{unless_elim}
use Rattle.header.specs.Header.{total, holds}
use Rattle.channel.specs.Answers.{ChannelAfter}
use Rattle.channel.specs.Layer3.{layer3, header_of, si_lch_of, lf_of, sc_of}
use Rattle.channel.specs.State.{channel_with, fresh, keeps_rule, is_waiting, as_waiting, after_joining, step_of}
use Rattle.channel.specs.declared.Channel.{Channel}
use Rattle.channel.specs.declared.Phase.TheVariants.{Ready, Gathering}
use Rattle.channel.proofs.Laws.{rule_bytes}

-- the state that a block without LF leaves keeps the rule
pub next_rule : (bytes : List ℕ) (n sc : ℕ) → n + 20 ≤ 260 → n % 20 ≡ 0 → keeps_rule (channel_with bytes (n + 20) Gathering ((sc + 1) % 16)) ≡ true
unfolding keeps_rule
next_rule bytes n sc h k =
    let a : (sc + 1) % 16 ≤ 15 = omega arith in
    let b : 20 ≤ n + 20 = omega arith in
    let d : (n + 20) % 20 ≡ 0 = omega arith in
    simp (le-leb _ _ a, le-leb _ _ b, le-leb _ _ h, eq-eqb _ _ d)

-- and the state that one with LF leaves
pub ready_rule : (bytes : List ℕ) (sc : ℕ) → keeps_rule (channel_with bytes 0 Ready (sc % 16)) ≡ true
unfolding keeps_rule
ready_rule bytes sc = let a : sc % 16 ≤ 15 = omega arith in simp (le-leb _ _ a)

abbrev Kept : ChannelAfter → Type 0
Kept l = keeps_rule l.channel ≡ true

waiting_kept : (c : Channel) (lf : Bool) (sc : ℕ) → keeps_rule (as_waiting c lf sc) ≡ true
unfolding as_waiting keeps_rule
waiting_kept c true sc = ready_rule c.bytes (sc + 1)
waiting_kept c false sc = refl

joined_kept : (bytes : List ℕ) (n : ℕ) (lf : Bool) (sc : ℕ) → n + 20 ≤ 260 → n % 20 ≡ 0 → Kept (after_joining bytes (n + 20) lf ((sc + 1) % 16))
unfolding after_joining
joined_kept bytes n true sc h k = ready_rule bytes (sc + 1)
joined_kept bytes n false sc h k = next_rule bytes n sc h k

pub rule_kept : (c : Channel) (information : List ℕ) → keeps_rule c ≡ true → keeps_rule (step_of c information).channel ≡ true
unfolding step_of
rule_kept c information rule =
    let h = header_of information in
    let waiting = waiting_kept c (lf_of h) (sc_of h) in
    unless_elim Kept (keeps_rule c) _ _ rule λ _.
    unless_elim Kept (eqb (length information) 22) _ _ rule λ _.
    unless_elim Kept (eqb (si_lch_of h) 10) _ _ rule λ _.
    unless_elim Kept (holds (total layer3) h) _ _ rule λ _.
    unless_elim Kept (not (is_waiting c.phase)) _ _ waiting λ _.
    unless_elim Kept (eqb (sc_of h) c.expected) _ _ waiting λ _.
    unless_elim Kept (ltb c.gathered 260) _ _ waiting λ l.
    let r = rule_bytes c rule in
    let room = ltb-true c.gathered 260 l in
    joined_kept _ c.gathered (lf_of h) (sc_of h) (omega arith) r.1

pub fresh_rule : keeps_rule fresh ≡ true
unfolding keeps_rule fresh
fresh_rule = refl
