use native.Mathlib.Omega.{arith}
use mathlib.Core.Path.{◌≡◌, ap, ◌∙◌}
use mathlib.Core.List.{List}
use Prim.Native.Nat.{ℕ, ◌+◌, ◌*◌}
use lib.ListN.{get_or}
use Rattle.gf2.specs.Poly.{◌⊕◌}
use Rattle.code.specs.Vote.{parity_over, check_positions}
use Rattle.code.proofs.Computed.{positions_length}
use Rattle.words.specs.Bytes.{bit_of, bit_in}
use Rattle.words.proofs.Bytes.{bit_of_zero}
use Rattle.words.proofs.Shifts.{bit_of_xor}
use Rattle.words.proofs.Turns.{parity_turn, parity_end}
use Rattle.words.proofs.Rounds.{position_inside, sum_round}
use Rattle.words.proofs.circle.Circle.sum_word.Goals as goal

pub loop-position-init : goal.loop-position-init
loop-position-init c =
    let a = c.args in
    λ k h. ap (λ z. z ⊕ parity_over (λ s. bit_in 64 a.self.now.words (64 * a.i + k + s)) check_positions) (bit_of_zero k)

pub overflow_add-i : goal.overflow_add-i
overflow_add-i c = omega (arith, (position_inside _ c.loop-position.position-index c.check_positions-position-items.ensures (omega arith)).on)

pub positions-odd-requires : goal.positions-odd-requires
positions-odd-requires c =
    let s = position_inside _ c.loop-position.position-index c.check_positions-position-items.ensures (omega arith) in
    (omega (arith, s.on, s.forward), omega (arith, s.on))

pub loop-position-preserved : goal.loop-position-preserved
loop-position-preserved c =
    let h = c.loop-position in
    let l = h.position-index in
    let a = c.args in
    let ws = a.self.now.words in
    λ k g. let here : 64 * a.i + get_or check_positions l 0 + k ≡ 64 * a.i + k + get_or check_positions l 0 = omega arith in
    parity_turn (λ s. bit_in 64 ws (64 * a.i + k + s)) check_positions l (bit_of h.odd k) _ (h.invariant k g) _ (omega (arith, positions_length))
    (bit_of_xor h.odd c.positions-odd.result k
    ∙ ap (λ z. bit_of h.odd k ⊕ z) (c.positions-odd.ensures k g ∙ ap (λ (ps : List ℕ). bit_in 64 ws (64 * a.i + get_or ps l 0 + k)) c.check_positions-position-items.ensures ∙ ap (bit_in 64 ws) here))

pub returns : goal.returns
returns c =
    let h = c.loop-position in
    let a = c.args in
    let ws = a.self.now.words in
    λ bits twice k g on. parity_end (λ s. bit_in 64 ws (64 * a.i + k + s)) check_positions h.position-index (bit_of h.odd k) _ (h.invariant k g) (omega (arith, positions_length))
    ∙ sum_round ws bits twice (64 * a.i + k) on
