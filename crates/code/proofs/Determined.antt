-- NO TWO OUTCOMES MEET A PROMISE of this crate's public functions. Assumes nothing.
use Prim.Native.Nat.{ℕ}
use mathlib.Core.Path.{◌≡◌, sym, ◌∙◌}
use mathlib.Core.Bool.{Bool}
use mathlib.Core.List.{List}
use Rattle.code.specs.Code.{generator}
use Rattle.code.specs.Vote.{check_positions}

-- `generator_row`
pub generator_row_once : (r s : List Bool) → r ≡ generator → s ≡ generator → r ≡ s
generator_row_once r s p q = p ∙ sym q

-- `check_positions`
pub check_positions_once : (r s : List ℕ) → r ≡ check_positions → s ≡ check_positions → r ≡ s
check_positions_once r s p q = p ∙ sym q
