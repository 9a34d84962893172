use borrow.Author.Rules.{rules}
use native.Mathlib.Omega.{arith}
use native.Mathlib.Nat.{zero-add}
use mathlib.Core.Path.{◌≡◌, refl, sym, ap, ◌∙◌}
use mathlib.Core.List.{List}
use Prim.Native.Nat.{ℕ, ◌+◌, ◌-◌, ◌*◌, ◌<◌}
use lib.Dec.{leb, lit<}
use lib.ListN.{get_or, drop}
use Rattle.gf2.specs.Poly.{bit}
use Rattle.gf2.proofs.Bits.{bit_lt}
use Rattle.code.specs.Vote.{sum_over, check_positions, majority}
use Rattle.code.proofs.Computed.{positions_length}
use Rattle.words.specs.Bytes.{bit_of, bit_in}
use Rattle.words.specs.Circle.{counted}
use Rattle.words.proofs.Turns.{sum_turn, sum_end}
use Rattle.words.proofs.Rounds.{position_inside, meet_round}
use Rattle.words.proofs.votes.turned_word.Goals as goal

-- the sum that has its check position here, read from the circle
met_at : (ws : List ℕ) (i k l : ℕ) (positions : List ℕ) → positions ≡ check_positions → l < 17
    → bit_in 64 ws (64 * i + 273 - get_or positions l 0 + k) ≡ bit_in 64 ws (64 * i + k + 273 - get_or check_positions l 0)
met_at ws i k l positions e h =
    let same : 64 * i + 273 - get_or check_positions l 0 + k ≡ 64 * i + k + 273 - get_or check_positions l 0 = omega (arith, (position_inside check_positions l refl h).on) in
    ap (λ (ps : List ℕ). bit_in 64 ws (64 * i + 273 - get_or ps l 0 + k)) e ∙ ap (bit_in 64 ws) same

pub met-requires : goal.met-requires
met-requires c =
    let s = position_inside _ 0 c.check_positions-positions.ensures (lit< tt) in
    (search rules, s.on, s.back)

pub loop-pair-init : goal.loop-pair-init
loop-pair-init c =
    let a = c.args in
    let ws = a.circle.now.words in
    let m = c.met in
    let positions = c.check_positions-positions in (
      λ k h. omega (arith, c.first-counts.ensures k, bit_lt (bit_of m.result k)),
      λ k h. let f : ℕ → ℕ = λ s. bit (bit_in 64 ws (64 * a.i + k + 273 - s)) in
          ap (λ (n : ℕ). n + sum_over f (drop 1 check_positions)) (sym (zero-add (counted c.first-counts.result k)))
          ∙ sum_turn f check_positions 0 0 (sum_over f check_positions) (zero-add (sum_over f check_positions)) (counted c.first-counts.result k) (omega (arith, positions_length))
          (c.first-counts.ensures k ∙ ap bit (m.ensures k h ∙ met_at ws a.i k 0 positions.result positions.ensures (lit< tt))),
    )

pub met-requires-in-loop-pair : goal.met-requires-in-loop-pair
met-requires-in-loop-pair c =
    let s = position_inside _ (2 * c.loop-pair.pair + 1) c.check_positions-positions.ensures (omega arith) in
    (search rules, s.on, s.back)

pub met-requires-in-loop-pair-2 : goal.met-requires-in-loop-pair-2
met-requires-in-loop-pair-2 c =
    let s = position_inside _ (2 * c.loop-pair.pair + 2) c.check_positions-positions.ensures (omega arith) in
    (search rules, s.on, s.back)

pub loop-pair-preserved : goal.loop-pair-preserved
loop-pair-preserved c =
    let h = c.loop-pair in
    let l = 2 * h.pair + 1 in
    let a = c.args in
    let ws = a.circle.now.words in
    let u = c.met-in-loop-pair in
    let v = c.met-in-loop-pair-2 in
    let positions = c.check_positions-positions in
    let more : (k : ℕ) → k < 64 → counted c.with_two-counts.result k ≡ counted h.counts k + bit (bit_of u.result k) + bit (bit_of v.result k) =
    λ k g. c.with_two-counts.ensures k (omega (arith, h.invariant.0 k g)) in (
      λ k g. omega (arith, more k g, h.invariant.0 k g, bit_lt (bit_of u.result k), bit_lt (bit_of v.result k)),
      λ k g. let f : ℕ → ℕ = λ s. bit (bit_in 64 ws (64 * a.i + k + 273 - s)) in
          let n = counted h.counts k in
          let x = bit (bit_of u.result k) in
          let y = bit (bit_of v.result k) in
          let next : 2 * (h.pair + 1) + 1 ≡ l + 1 + 1 = omega arith in
          let second : 2 * h.pair + 2 ≡ l + 1 = omega arith in
          ap (λ (m : ℕ). m + sum_over f (drop (2 * (h.pair + 1) + 1) check_positions)) (more k g)
          ∙ ap (λ (m : ℕ). n + x + y + sum_over f (drop m check_positions)) next
          ∙ sum_turn f check_positions (l + 1) (n + x) (sum_over f check_positions)
          (sum_turn f check_positions l n (sum_over f check_positions) (h.invariant.1 k g) x (omega (arith, positions_length)) (ap bit (u.ensures k g ∙ met_at ws a.i k l _ positions.ensures (omega arith))))
          y (omega (arith, positions_length)) (ap bit (v.ensures k g ∙ met_at ws a.i k (2 * h.pair + 2) _ positions.ensures (omega arith) ∙ ap (λ (m : ℕ). bit_in 64 ws (64 * a.i + k + 273 - get_or check_positions m 0)) second)),
    )

pub returns : goal.returns
returns c =
    let h = c.loop-pair in
    let a = c.args in
    let ws = a.circle.now.words in
    λ sums twice k g on. c.nine.ensures k
    ∙ ap (leb majority) (sum_end (λ s. bit (bit_in 64 ws (64 * a.i + k + 273 - s))) check_positions (2 * h.pair + 1) (counted h.counts k) _ (h.invariant.1 k g) (omega (arith, positions_length))
    ∙ meet_round ws sums twice (64 * a.i + k) on)
