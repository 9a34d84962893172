-- NO TWO OUTCOMES MEET A PROMISE of this crate's public functions. Assumes nothing.
use Prim.Native.Nat.{ℕ}
use mathlib.Core.Path.{◌≡◌, refl, sym, ap, ◌∙◌}
use mathlib.Core.Bool.{Bool}
use mathlib.Core.List.{List}
use Rattle.std.specs.Prelude.{Result, Ok, Err}
use Rattle.answers.specs.declared.Refusal.{Refusal}
use Rattle.answers.specs.Numbers.{number_of}
use Rattle.answers.proofs.Determined.{refusal_once}
use Rattle.channel.specs.Answers.{outcome, ChannelAfter, told_step}
use Rattle.channel.specs.Layer4.{size_of, blocks_for}
use Rattle.channel.specs.State.{fresh, step_of}
use Rattle.channel.specs.declared.Channel.{Channel}
use Rattle.channel.specs.declared.Step.{Step}
use Rattle.channel.specs.declared.Step.TheVariants.{Taken, Message}
use Rattle.channel.specs.declared.Stepped.{Stepped}

-- `Channel::new`
pub new_once : (r s : Channel) → r ≡ fresh → s ≡ fresh → r ≡ s
new_once r s p q = p ∙ sym q

outcome_once : (a b : Result Step Refusal) → outcome a ≡ outcome b → a ≡ b
outcome_once (Ok Taken) (Ok Taken) e = refl
outcome_once (Ok Taken) (Ok (Message h)) e = cc
outcome_once (Ok Taken) (Err r) e = cc
outcome_once (Ok (Message h)) (Ok Taken) e = cc
outcome_once (Ok (Message h)) (Ok (Message k)) e = cc
outcome_once (Ok (Message h)) (Err r) e = cc
outcome_once (Err r) (Ok Taken) e = cc
outcome_once (Err r) (Ok (Message h)) e = cc
outcome_once (Err r) (Err s) e = let n : number_of r ≡ number_of s = cc in ap Err (refusal_once r s n)

-- `Channel::step`
pub step_once : (c : Channel) (information : List ℕ) (r s : Stepped) → told_step r ≡ step_of c information → told_step s ≡ step_of c information → r ≡ s
step_once c information r s p q =
    let e = p ∙ sym q in
    let answer = outcome_once r.answer s.answer (ap (λ (l : ChannelAfter). l.answer) e) in
    let channel = ap (λ (l : ChannelAfter). l.channel) e in
    λ i. record { answer = answer i; channel = channel i }

-- `header_size`
pub header_size_once : (ext : Bool) (r s : ℕ) → r ≡ size_of ext → s ≡ size_of ext → r ≡ s
header_size_once ext r s p q = p ∙ sym q

-- `blocks_for`
pub blocks_for_once : (bytes r s : ℕ) → r ≡ blocks_for bytes → s ≡ blocks_for bytes → r ≡ s
blocks_for_once bytes r s p q = p ∙ sym q
