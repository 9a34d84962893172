-- `Channel::join_on` copies twenty bytes to the place, and goes by LF. Assumes nothing.
use Prim.Native.Nat.{◌+◌, ◌-◌}
use mathlib.Core.Path.{◌≡◌, sym, ap, ◌∙◌}
use native.Mathlib.Omega.{arith}
use Rattle.std.specs.Prelude.{Result, Ok, Err}
use Rattle.std.specs.Result.{MatchResult, IsOkAnd}
use Rattle.answers.specs.declared.Refusal.{Refusal}
use Rattle.channel.specs.Answers.{outcome}
use Rattle.channel.specs.Headers.{message_or}
use Rattle.channel.specs.declared.Header.{Header}
use Rattle.channel.specs.declared.Step.{Step}
use Rattle.channel.specs.declared.Step.TheVariants.{Message}
use Rattle.channel.specs.State.{after_joining}
use Rattle.std.proofs.lemmas.Slice.{put_mid-paste}
use Rattle.channel.proofs.Channel.join_on.Goals as goal

-- a message that was read is answered
answered : (r : Result Header Refusal) (a : Result Step Refusal) → MatchResult r (λ h. IsOkAnd a (λ s. s ≡ Message h)) (λ e. a ≡ Err e) → outcome a ≡ message_or r
answered (Ok h) (Ok s) m = ap (λ (x : Step). outcome (Ok x)) m
answered (Ok h) (Err e) m = absurd m
answered (Err e) a m = ap outcome m

pub returns-then-header : goal.returns-then-header
unfolding after_joining
returns-then-header c =
    let a = c.args in
    let at = a.self.now.gathered in
    let e = put_mid-paste at (at + 20 - at) a.self.now.bytes _ a.twenty.now 20 c.copy_from_slice.ensures.after (omega arith) (sym c.requires.1) in
    simp (c.if-header.true, sym e, c.next_sc-self.ensures, answered _ _ c.map.ensures.cases ∙ c.read.ensures)

pub returns-else-header : goal.returns-else-header
unfolding after_joining
returns-else-header c =
    let a = c.args in
    let at = a.self.now.gathered in
    let e = put_mid-paste at (at + 20 - at) a.self.now.bytes _ a.twenty.now 20 c.copy_from_slice.ensures.after (omega arith) (sym c.requires.1) in
    simp (c.if-header.false, sym e, c.next_sc-self.ensures)
