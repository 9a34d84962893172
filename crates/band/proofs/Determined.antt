-- NO TWO OUTCOMES MEET A PROMISE of this crate's public functions. Assumes nothing.
use Prim.Native.Nat.{ℕ}
use mathlib.Core.Path.{◌≡◌, sym, ap, ◌∙◌}
use mathlib.Core.Bool.{Bool}
use Rattle.std.specs.Prelude.{Result, Ok, Err}
use Rattle.answers.specs.declared.Refusal.{Refusal}
use Rattle.answers.specs.Numbers.{number_of}
use Rattle.answers.proofs.Determined.{refusal_once, refused_accepted, refused_once}
use Rattle.band.specs.declared.Channel.{Channel}
use Rattle.band.specs.declared.Kilohertz.{Kilohertz}
use Rattle.band.specs.Band.{ToldNumber, told_number, told_channel, told_kilohertz, is_channel, numbered_of, kilohertz_of, channel_of}

-- what is told determines the answer, where the number determines what was made
told_once : {A : Type 0} (number : A → ℕ) → ((a b : A) → number a ≡ number b → a ≡ b) → (a b : Result A Refusal) → told_number number a ≡ told_number number b → a ≡ b
told_once number one (Ok a) (Ok b) e = ap Ok (one a b (ap (λ (t : ToldNumber). t.number) e))
told_once number one (Ok a) (Err b) e = absurd (refused_accepted (number_of b) (sym (ap (λ (t : ToldNumber). t.answer) e)))
told_once number one (Err a) (Ok b) e = absurd (refused_accepted (number_of a) (ap (λ (t : ToldNumber). t.answer) e))
told_once number one (Err a) (Err b) e = ap Err (refusal_once a b (refused_once _ _ (ap (λ (t : ToldNumber). t.answer) e)))

channel_told : (a b : Result Channel Refusal) → told_channel a ≡ told_channel b → a ≡ b
channel_told = told_once (λ c. c.0) (λ a b e. λ i. record { 0 = e i })

kilohertz_told : (a b : Result Kilohertz Refusal) → told_kilohertz a ≡ told_kilohertz b → a ≡ b
kilohertz_told = told_once (λ k. k.0) (λ a b e. λ i. record { 0 = e i })

-- `Channel::try_from` of a number
pub numbered_once : (number : ℕ) (r s : Result Channel Refusal) → told_channel r ≡ numbered_of number → told_channel s ≡ numbered_of number → r ≡ s
numbered_once number r s p q = channel_told r s (p ∙ sym q)

-- `Kilohertz::try_from`
pub to_kilohertz_once : (channel : Channel) (r s : Result Kilohertz Refusal) → told_kilohertz r ≡ kilohertz_of channel → told_kilohertz s ≡ kilohertz_of channel → r ≡ s
to_kilohertz_once channel r s p q = kilohertz_told r s (p ∙ sym q)

-- `Channel::try_from` of a frequency
pub to_channel_once : (kilohertz : Kilohertz) (r s : Result Channel Refusal) → told_channel r ≡ channel_of kilohertz → told_channel s ≡ channel_of kilohertz → r ≡ s
to_channel_once kilohertz r s p q = channel_told r s (p ∙ sym q)

-- `is_channel`
pub is_channel_once : (number : ℕ) (r s : Bool) → r ≡ is_channel number → s ≡ is_channel number → r ≡ s
is_channel_once number r s p q = p ∙ sym q
