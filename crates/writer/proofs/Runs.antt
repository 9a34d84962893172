-- Runs of blocks through a channel, by the definition of a step. Assumes nothing.
use Prim.Native.Nat.{ℕ, zero, suc}
use mathlib.Core.Path.{◌≡◌, refl, sym, subst}
use mathlib.Core.List.{List, [], ◌∷◌, ◌++◌, map}
use native.Mathlib.Omega.{arith}
use lib.ListN.{replicate}
use Rattle.answers.proofs.Runs.{run_of, run_told}
use Rattle.channel.specs.Answers.{taken, message, ChannelAfter, told_step}
use Rattle.channel.specs.State.{step_of}
use Rattle.channel.specs.declared.Channel.{Channel}
use Rattle.channel.specs.declared.Header.{Header}
use Rattle.channel.specs.declared.Stepped.{Stepped}
use Rattle.writer.specs.Reading.{Steps, answers_in}

abbrev pub leaves : ChannelAfter → Channel
leaves t = t.channel

abbrev pub steps_of : Channel → List (List ℕ) → List ChannelAfter
steps_of = run_of step_of leaves

-- any outcomes of the contract are told as this run
pub steps_told : (c : Channel) (blocks : List (List ℕ)) (steps : List Stepped) → Steps c blocks steps → map told_step steps ≡ steps_of c blocks
steps_told = run_told step_of leaves told_step

-- a run that is answered "taken" .. "message", block by block
no_blocks : (c : Channel) (blocks : List (List ℕ)) → answers_in (steps_of c blocks) ≡ [] → blocks ≡ []
no_blocks c [] e = refl
no_blocks c (b ∷ blocks) e = let z : ◌≡◌ {A = ℕ} 0 1 = cc in absurd (omega arith)

module _ (m : Header) (P : ℕ → Channel → List (List ℕ) → Type 0)
    (last : (c : Channel) (b : List ℕ) → (step_of c b).answer ≡ message m → P 0 c (b ∷ []))
    (more : (k : ℕ) (c : Channel) (b : List ℕ) (blocks : List (List ℕ)) → (step_of c b).answer ≡ taken → P k (step_of c b).channel blocks → P (suc k) c (b ∷ blocks)) where
  pub run_elim : (k : ℕ) (c : Channel) (blocks : List (List ℕ)) → answers_in (steps_of c blocks) ≡ replicate k taken ++ (message m ∷ []) → P k c blocks
  run_elim zero c [] e = let z : ◌≡◌ {A = ℕ} 0 1 = cc in absurd (omega arith)
  run_elim (suc k) c [] e = let z : ◌≡◌ {A = ℕ} 0 1 = cc in absurd (omega arith)
  run_elim zero c (b ∷ blocks) e = subst (λ (bs : List (List ℕ)). P 0 c (b ∷ bs)) (sym (no_blocks (step_of c b).channel blocks (cc))) (last c b (cc))
  run_elim (suc k) c (b ∷ blocks) e = more k c b blocks (cc) (run_elim k (step_of c b).channel blocks (cc))
