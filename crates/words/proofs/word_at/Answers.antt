use native.Mathlib.Omega.{arith}
use mathlib.Core.Path.{◌≡◌, ◌∙◌}
use mathlib.Core.List.{List}
use Prim.Native.Nat.{ℕ, ◌+◌, ◌*◌, ◌/◌, ◌%◌, ◌^◌, ◌<◌}
use lib.ListN.{get_or}
use Rattle.words.specs.Bytes.{bit_of, bit_in}
use Rattle.words.proofs.Bytes.{bit_of_zero, byte_more, byte_none}
use Rattle.words.proofs.word_at.Goals as goal

pub loop-j-init : goal.loop-j-init
loop-j-init c = (λ k h. absurd (omega arith), λ k h. bit_of_zero k)

pub loop-j-preserved : goal.loop-j-preserved
loop-j-preserved c =
    let h = c.loop-j in
    let a = c.args in
    let x = c.from.result in
    let small : x < 2 ^ 8 = omega (arith, c.from.ensures, c.type_inv.bytes (a.at + h.j)) in (
      byte_more (λ i. get_or a.bytes.now (a.at + i) 0) h.j h.word x (omega arith) c.from.ensures small h.invariant.0 h.invariant.1,
      byte_none (λ i. get_or a.bytes.now (a.at + i) 0) h.j h.word x (omega arith) c.from.ensures small h.invariant.0 h.invariant.1,
    )

pub returns : goal.returns
returns c =
    let h = c.loop-j in
    let a = c.args in
    (λ k g. h.invariant.0 k (omega arith) ∙ here a.bytes.now a.at k, λ k g. h.invariant.1 k (omega arith))
  where
    here : (bytes : List ℕ) (at k : ℕ) → bit_of (get_or bytes (at + k / 8) 0) (k % 8) ≡ bit_in 8 bytes (8 * at + k)
    here bytes at k =
        let q : at + k / 8 ≡ (8 * at + k) / 8 = omega arith in
        let r : k % 8 ≡ (8 * at + k) % 8 = omega arith in
        λ i. bit_of (get_or bytes (q i) 0) (r i)
