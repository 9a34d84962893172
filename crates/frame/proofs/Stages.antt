-- The laws of a stage, over all code words, of which at most one is near a row. Assumes nothing.
use mathlib.Core.Path.{◌≡◌, refl, sym, ◌∙◌, subst}
use mathlib.Core.Bool.{Bool}
use mathlib.Core.List.{List}
use Prim.Native.Nat.{ℕ, zero, suc, ◌+◌, ◌<◌, ◌≤◌}
use native.Mathlib.Decide.{ℕ_discrete}
use native.Mathlib.Omega.{arith}
use lib.ListN.{length}
use Rattle.code.proofs.Majority.{only_word}
use Rattle.frame.specs.Frames.{Frame, row_in, Becomes, corrected, kept, Stage, start, next}
use Rattle.frame.proofs.Frames.{length_row_in}

-- a row is refused or not
pub refused_one : {row result : List Bool} {i : ℕ} → Becomes row result i → i ≤ 1
refused_one (corrected code near) = omega arith
refused_one (kept none same) = omega arith

-- what a row becomes is determined
becomes_once : (row x y : List Bool) (i j : ℕ) → length row ≡ 272 → Becomes row x i → Becomes row y j → (x ≡ y) × (i ≡ j)
becomes_once row x y i j l (corrected code near) (corrected other close) = (only_word row x y l code other near close, refl)
becomes_once row x y i j l (corrected code near) (kept none same) = absurd (none x code near)
becomes_once row x y i j l (kept none same) (corrected code near) = absurd (none y code near)
becomes_once row x y i j l (kept none same) (kept again also) = (same ∙ sym also, refl)

pub becomes_same : {row other x y : List Bool} {i : ℕ} → row ≡ other → x ≡ y → Becomes row x i → Becomes other y i
becomes_same {row} {other} {x} {y} {i} p q b = subst (λ (z : List Bool). Becomes other z i) q (subst (λ (z : List Bool). Becomes z x i) p b)

-- a stage says nothing of a frame but by its rows
pub stage_same : {f g k h : Frame} {n i : ℕ} → ((m : ℕ) → m < n → row_in f m ≡ row_in k m) → ((m : ℕ) → m < n → row_in g m ≡ row_in h m) → Stage f g n i → Stage k h n i
stage_same a b start = start
stage_same {f} {g} {k} {h} a b (next {n} {refusals} {more} s row) =
    next (stage_same (λ m l. a m (omega arith)) (λ m l. b m (omega arith)) s) (becomes_same (a n (omega arith)) (b n (omega arith)) row)

-- WHAT THE ROWS OF A STAGE BECOME IS DETERMINED, and how many are refused
pub stage_once : {f g h : Frame} {n i j : ℕ} → Stage f g n i → Stage f h n j → ((m : ℕ) → m < n → row_in g m ≡ row_in h m) × (i ≡ j)
stage_once start start = ((λ m l. absurd (omega arith)), refl)
stage_once {f} {g} {h} (next {n} {refusals = i} {more = a} s x) (next {refusals = j} {more = b} t y) =
    let before = stage_once s t in
    let here = becomes_once (row_in f n) (row_in g n) (row_in h n) a b (length_row_in f n) x y in (
      λ m l. elim (ℕ_discrete m n) [
        | yes e ↦ subst (λ (k : ℕ). row_in g k ≡ row_in h k) (sym e) here.0
        | no d ↦ before.0 m (omega arith)
      ],
      λ t. before.1 t + here.1 t,
    )

-- WHERE EACH ROW CAN BECOME THAT OF A FRAME the stage gives its rows, and refuses none
pub stage_near : {f g : Frame} (h : Frame) {n i : ℕ} → ((m : ℕ) → m < n → Becomes (row_in f m) (row_in h m) 0) → Stage f g n i → ((m : ℕ) → m < n → row_in g m ≡ row_in h m) × (i ≡ 0)
stage_near {f} {g} h {n} each s = stage_once s (all n each)
  where
    all : (n : ℕ) → ((m : ℕ) → m < n → Becomes (row_in f m) (row_in h m) 0) → Stage f h n 0
    all zero each = start
    all (suc n) each = next (all n (λ m l. each m (omega arith))) (each n (omega arith))
