-- One turn of each loop, over plain values: what is done and what is left make the whole. Assumes nothing.
use mathlib.Core.Path.{◌≡◌, refl, sym, ap, ◌∙◌}
use mathlib.Core.Bool.{Bool, true, false, ◌||◌}
use mathlib.Core.List.{List, [], ◌∷◌, ◌++◌, append_assoc}
use Prim.Native.Nat.{ℕ, zero, suc, ◌+◌, ◌-◌, ◌<◌}
use native.Mathlib.Numerals.{add-one}
use native.Mathlib.Omega.{arith}
use native.Mathlib.Decide.{ℕ_discrete}
use borrow.Author.Tests.{eq-eqb, ne_eqb}
use lib.Dec.{eqb}
use Rattle.std.specs.List.{list_any}
use lib.ListN.{length, get_or, take, drop}
use lib.Seq.{take-suc, take_at, drop_at, length-take-le}
use Rattle.gf2.specs.Poly.{scale, add, divided, elem, lower}
use Rattle.gf2.proofs.Lists.{drop_one}
use Rattle.gf2.proofs.Remainders.{scale_true, add_scale_false}

-- a step more of the division, of which the row so far is one of two
module _ (low row whole : List Bool) (i k : ℕ) (h : i < length row) (hk : i < k) (inv : take i row ++ divided low (k - i) (drop i row) ≡ whole) where
  stepped : take (i + 1) row ++ divided low (k - (i + 1)) (add (scale (get_or row i false) low) (drop (i + 1) row)) ≡ whole
  stepped =
      ap (λ xs. xs ++ divided low (k - (i + 1)) (add (scale (get_or row i false) low) (drop (i + 1) row))) taken
      ∙ append_assoc (take i row) (get_or row i false ∷ []) (divided low (k - (i + 1)) (add (scale (get_or row i false) low) (drop (i + 1) row)))
      ∙ ap {B = List Bool} (λ xs. take i row ++ xs) here
      ∙ inv
    where
      taken : take (i + 1) row ≡ take i row ++ (get_or row i false ∷ [])
      taken = rw add-one (take-suc row i false h)

      left : k - i ≡ suc (k - (i + 1))
      left = omega arith

      here : get_or row i false ∷ divided low (k - (i + 1)) (add (scale (get_or row i false) low) (drop (i + 1) row)) ≡ divided low (k - i) (drop i row)
      here = sym (λ t. divided low (left t) (drop_one row i false h t))

  pub zero_turn : (next : List Bool) → next ≡ row → get_or row i false ≡ false → take (i + 1) next ++ divided low (k - (i + 1)) (drop (i + 1) next) ≡ whole
  zero_turn next q e =
      ap (λ xs. take (i + 1) xs ++ divided low (k - (i + 1)) (drop (i + 1) xs)) q
      ∙ ap (λ xs. take (i + 1) row ++ divided low (k - (i + 1)) xs) (sym (add_scale_false low (drop (i + 1) row)) ∙ ap (λ b. add (scale b low) (drop (i + 1) row)) (sym e))
      ∙ stepped

  pub one_turn : (next : List Bool) → next ≡ take (i + 1) row ++ add low (drop (i + 1) row) → get_or row i false ≡ true
      → take (i + 1) next ++ divided low (k - (i + 1)) (drop (i + 1) next) ≡ whole
  one_turn next q e =
      ap (λ xs. take (i + 1) xs ++ divided low (k - (i + 1)) (drop (i + 1) xs)) q
      ∙ (λ t. take_at (take (i + 1) row) (add low (drop (i + 1) row)) (i + 1) long t ++ divided low (k - (i + 1)) (drop_at (take (i + 1) row) (add low (drop (i + 1) row)) (i + 1) long t))
      ∙ ap (λ xs. take (i + 1) row ++ divided low (k - (i + 1)) (add xs (drop (i + 1) row))) (sym (scale_true low) ∙ ap (λ b. scale b low) (sym e))
      ∙ stepped
    where
      long : length (take (i + 1) row) ≡ i + 1
      long = length-take-le (i + 1) row (omega arith)

pub length_lower : (n : ℕ) (powers : List ℕ) → length (lower n powers) ≡ n
length_lower zero powers = refl
length_lower (suc n) powers = ap suc (length_lower n powers)

pub lower_place : (n : ℕ) (powers : List ℕ) (p : ℕ) → p < n → get_or (lower n powers) p false ≡ elem (n - 1 - p) powers
lower_place zero powers p h = absurd (omega arith)
lower_place (suc n) powers zero h = ap (λ (k : ℕ). elem k powers) (omega arith)
lower_place (suc n) powers (suc p) h = lower_place n powers p (omega arith) ∙ ap (λ (k : ℕ). elem k powers) (omega arith)

-- the library's test for a power, at a place of a row
pub among : (n : ℕ) (powers : List ℕ) → list_any (λ e. eqb e n) powers ≡ elem n powers
among n [] = refl
among n (e ∷ powers) = λ i. either i || among n powers i
  where
    either : eqb e n ≡ eqb n e
    either = elim (ℕ_discrete e n) [
      | yes q ↦ eq-eqb e n q ∙ sym (eq-eqb n e (sym q))
      | no d ↦ ne_eqb e n d ∙ sym (ne_eqb n e (λ q. d (sym q)))
    ]
