-- Laws of runs, and the run of a definition: any outcomes that are told as it has them are this run. Assumes nothing.
use mathlib.Core.Path.{◌≡◌, refl, ap, ◌∙◌}
use mathlib.Core.List.{List, [], ◌∷◌, ◌++◌, map}
use Rattle.answers.specs.Rules.{Run, state_left}

module _ {S I T : Type 0} (step : S → I → T) (after : T → S) where
  abbrev pub run_of : S → List I → List T
  run_of s [] = []
  run_of s (i ∷ items) = step s i ∷ run_of (after (step s i)) items

  pub run_told : {O : Type 0} (told : O → T) (s : S) (items : List I) (outcomes : List O) → Run (λ s i o. told o ≡ step s i) (λ o. after (told o)) s items outcomes → map told outcomes ≡ run_of s items
  run_told told s [] [] r = refl
  run_told told s [] (o ∷ outcomes) r = absurd r
  run_told told s (i ∷ items) [] r = absurd r
  run_told told s (i ∷ items) (o ∷ outcomes) r =
      ap (λ (ts : List T). told o ∷ ts) (run_told told (after (told o)) items outcomes r.1) ∙ ap (λ (t : T). t ∷ run_of (after t) items) r.0

  -- one run after the other
  pub run_append : (s : S) (xs ys : List I) → run_of s (xs ++ ys) ≡ run_of s xs ++ run_of (state_left after s (run_of s xs)) ys
  run_append s [] ys = refl
  run_append s (x ∷ xs) ys = ap (λ (ts : List T). step s x ∷ ts) (run_append (after (step s x)) xs ys)

pub left_append : {S O : Type 0} (after : O → S) (s : S) (xs ys : List O) → state_left after s (xs ++ ys) ≡ state_left after (state_left after s xs) ys
left_append after s [] ys = refl
left_append after s (x ∷ xs) ys = left_append after (after x) xs ys
