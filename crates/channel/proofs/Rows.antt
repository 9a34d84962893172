-- A header from its bytes: one turn of the loop over them. Assumes nothing.
use Prim.Native.Nat.{ℕ, suc, ◌+◌, ◌-◌, ◌*◌, ◌^◌, ◌<◌}
use mathlib.Core.Path.{◌≡◌, sym, ◌∙◌}
use mathlib.Core.List.{List, ◌∷◌}
use native.Mathlib.Omega.{arith}
use lib.ListN.{length, get_or, drop, replicate}
use lib.Pow.{pow-add}
use Rattle.gf2.proofs.Lists.{drop_one}
use Rattle.header.specs.Header.{behind}

next_power : (i : ℕ) → 2 ^ (8 * (i + 1)) ≡ 2 ^ (8 * i) * 256
next_power i = let e : 8 * (i + 1) ≡ 8 * i + 8 = omega arith in rw e (pow-add 2 (8 * i) 8)

pub header_turn : (bytes : List ℕ) (whole h i : ℕ) → i < length bytes → get_or bytes i 0 < 256 → h < 2 ^ (8 * i)
    → behind h (replicate (length bytes - i) 8) (drop i bytes) ≡ whole
    → (h * 256 + get_or bytes i 0 < 2 ^ (8 * (i + 1))) × (behind (h * 256 + get_or bytes i 0) (replicate (length bytes - (i + 1)) 8) (drop (i + 1) bytes) ≡ whole)
header_turn bytes whole h i l s r inv =
    let left : length bytes - i ≡ suc (length bytes - (i + 1)) = omega arith in
    let here : drop i bytes ≡ get_or bytes i 0 ∷ drop (i + 1) bytes = drop_one bytes i 0 l in
    (omega (arith, next_power i), sym (λ t. behind h (replicate (left t) 8) (here t)) ∙ inv)
