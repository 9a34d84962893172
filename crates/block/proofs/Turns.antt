-- One turn of the loop over a byte's places: what is done and what is left make the whole. Assumes nothing.
use mathlib.Core.Path.{◌≡◌}
use mathlib.Core.Bool.{Bool, false}
use mathlib.Core.List.{List}
use Prim.Native.Nat.{ℕ, ◌+◌, ◌*◌, ◌-◌, ◌≤◌, ◌<◌}
use native.Mathlib.Numerals.{add-one}
use native.Mathlib.Omega.{arith}
use lib.ListN.{length, get_or, take, drop, length-take}
use Rattle.gf2.specs.Poly.{bit}
use Rattle.gf2.proofs.Lists.{drop_one}
use Rattle.words.specs.Bytes.{byte_of}
use Rattle.words.proofs.Bytes.{packed_lt}

-- the byte of eight places, from the last of them back
pub byte_turn : (row : List Bool) (at j x v : ℕ) → 0 < j → j ≤ 8 → at + j ≤ length row → x ≡ bit (get_or row (at + (j - 1)) false)
    → v ≡ byte_of (take (8 - j) (drop (at + j) row)) → x + 2 * v ≡ byte_of (take (8 - (j - 1)) (drop (at + (j - 1)) row))
byte_turn row at j x v h₀ h₈ hr ex ev = omega (arith, here)
  where
    more : 8 - (j - 1) ≡ 8 - j + 1
    more = omega arith

    next : at + (j - 1) + 1 ≡ at + j
    next = omega arith

    below : at + (j - 1) < length row
    below = omega arith

    here : byte_of (take (8 - (j - 1)) (drop (at + (j - 1)) row)) ≡ bit (get_or row (at + (j - 1)) false) + 2 * byte_of (take (8 - j) (drop (at + j) row))
    here = rw (more, add-one (8 - j), drop_one row (at + (j - 1)) false below, next)

pub byte_small : (j : ℕ) (bits : List Bool) → 0 < j → byte_of (take (8 - j) bits) < 128
byte_small j bits h = packed_lt 7 (take (8 - j) bits) (omega (arith, length-take (8 - j) bits))
