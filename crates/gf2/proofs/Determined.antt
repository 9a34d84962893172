-- NO TWO OUTCOMES MEET A PROMISE of this crate's public functions. `divide` and `fill_lower` return nothing: their outcome is the row that
-- they leave. Assumes nothing.
use Prim.Native.Nat.{ℕ, ◌-◌, ◌<◌}
use mathlib.Core.Path.{◌≡◌, sym, ◌∙◌}
use mathlib.Core.Bool.{Bool}
use mathlib.Core.List.{List}
use lib.ListN.{length}
use Rattle.gf2.specs.Poly.{bit, ◌⊕◌, divided, lower}

-- `number`
pub number_once : (b : Bool) (r s : ℕ) → (r ≡ bit b) × (r < 2) → (s ≡ bit b) × (s < 2) → r ≡ s
number_once b r s p q = p.0 ∙ sym q.0

-- `sum`
pub sum_once : (a b r s : Bool) → r ≡ a ⊕ b → s ≡ a ⊕ b → r ≡ s
sum_once a b r s p q = p ∙ sym q

-- `divide`
pub divide_once : (row low x y : List Bool) → x ≡ divided low (length row - length low) row → y ≡ divided low (length row - length low) row → x ≡ y
divide_once row low x y p q = p ∙ sym q

-- `fill_lower`
pub fill_lower_once : (powers : List ℕ) (row x y : List Bool) → x ≡ lower (length row) powers → y ≡ lower (length row) powers → x ≡ y
fill_lower_once powers row x y p q = p ∙ sym q
