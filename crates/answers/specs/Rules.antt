-- Document 01, "Answer numbers": a test that comes earlier wins; and what one call after the other gives. Assumes nothing.
use Rattle.std.specs.Prelude.{Bool, true, false, List, [], ◌∷◌}

-- tests in order: where one fails its answer is given, and else what follows decides
abbrev pub unless : {A : Type 0} → Bool → A → A → A
unless true refusal rest = rest
unless false refusal rest = refusal

-- outcomes of a step, which its contract allows, for item after item, each time from the state that the one before left
abbrev pub Run : {S I O : Type 0} → (S → I → O → Type 0) → (O → S) → S → List I → List O → Type 0
Run allowed after s [] [] = Unit
Run allowed after s [] (o ∷ outcomes) = ⊥
Run allowed after s (i ∷ items) [] = ⊥
Run allowed after s (i ∷ items) (o ∷ outcomes) = allowed s i o × Run allowed after (after o) items outcomes

-- and the state at the end
abbrev pub state_left : {S O : Type 0} → (O → S) → S → List O → S
state_left after s [] = s
state_left after s (o ∷ outcomes) = state_left after (after o) outcomes
