-- One turn of a loop over a list, over plain values: what is done and what is left make the whole. Assumes nothing.
use mathlib.Core.Path.{◌≡◌, sym, ap, ◌∙◌}
use mathlib.Core.Bool.{Bool}
use mathlib.Core.List.{List}
use Prim.Native.Nat.{ℕ, ◌+◌, ◌≤◌, ◌<◌}
use native.Mathlib.Omega.{arith}
use lib.ListN.{length, get_or, drop, drop_of_length-le}
use Rattle.gf2.specs.Poly.{◌⊕◌}
use Rattle.gf2.proofs.Bits.{⊕_assoc, ⊕_false}
use Rattle.gf2.proofs.Lists.{drop_one}
use Rattle.code.specs.Vote.{parity_over, sum_over}

-- a sum of bits over a list
module _ (f : ℕ → Bool) (ss : List ℕ) (l : ℕ) (odd whole : Bool) (inv : odd ⊕ parity_over f (drop l ss) ≡ whole) where
  pub parity_turn : (next : Bool) → l < length ss → next ≡ odd ⊕ f (get_or ss l 0) → next ⊕ parity_over f (drop (l + 1) ss) ≡ whole
  parity_turn next h e =
      ap (λ z. z ⊕ parity_over f (drop (l + 1) ss)) e ∙ ⊕_assoc odd (f (get_or ss l 0)) (parity_over f (drop (l + 1) ss))
      ∙ ap (λ z. odd ⊕ z) (sym (ap (parity_over f) (drop_one ss l 0 h))) ∙ inv

  pub parity_end : length ss ≤ l → odd ≡ whole
  parity_end h = sym (⊕_false odd) ∙ ap (λ z. odd ⊕ z) (sym (ap (parity_over f) (drop_of_length-le ss {i = l} h))) ∙ inv

-- a sum of numbers over a list
module _ (f : ℕ → ℕ) (ss : List ℕ) (l n whole : ℕ) (inv : n + sum_over f (drop l ss) ≡ whole) where
  pub sum_turn : (x : ℕ) → l < length ss → x ≡ f (get_or ss l 0) → n + x + sum_over f (drop (l + 1) ss) ≡ whole
  sum_turn x h e = omega (arith, ap (sum_over f) (drop_one ss l 0 h))

  pub sum_end : length ss ≤ l → n ≡ whole
  sum_end h = omega (arith, ap (sum_over f) (drop_of_length-le ss {i = l} h))
