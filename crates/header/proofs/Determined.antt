-- NO TWO OUTCOMES MEET THE PROMISE of this crate's public function. Assumes nothing.
use Prim.Native.Nat.{ℕ}
use mathlib.Core.Path.{◌≡◌, sym, ◌∙◌}
use Rattle.header.specs.Header.{check}

-- `check`
pub check_once : (fields r s : ℕ) → r ≡ check 64 fields → s ≡ check 64 fields → r ≡ s
check_once fields r s p q = p ∙ sym q
