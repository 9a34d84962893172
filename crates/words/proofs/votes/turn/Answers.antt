use native.Mathlib.Omega.{arith}
use native.Mathlib.Nat.{zero-add}
use native.Mathlib.Decide.{dec_lt}
use mathlib.Core.Path.{◌≡◌, refl, sym, ap, ◌∙◌}
use mathlib.Core.Bool.{false}
use Prim.Native.Nat.{ℕ, ◌+◌, ◌*◌, ◌^◌, ◌<◌}
use lib.Bits.{bit_and, and_lt}
use lib.Count.{ones-le}
use lib.Dec.{lit≤}
use lib.ListN.{length, drop, length-set, drop_of_length-le, get_or-eq_default}
use Rattle.code.specs.Code.{ones}
use Rattle.code.specs.Vote.{bit_at}
use Rattle.words.specs.Words.{FiveWords, row_of_words}
use Rattle.words.specs.Circle.{Holds, Lies, turned}
use Rattle.words.proofs.Words.{ones_held, stored_below, stored_front, stored_behind, none_stored, lies_five, zero_five}
use Rattle.words.proofs.Counts.{turned_held, length_turned}
use Rattle.words.proofs.votes.turn.Goals as goal

pub loop-i-init : goal.loop-i-init
loop-i-init c = (lit≤ tt, refl, zero_five.below, λ p h. none_stored p, λ sums twice. (zero-add (ones (turned sums)), λ p h. absurd (omega arith)))

pub overflow_add-count : goal.overflow_add-count
overflow_add-count c = omega (arith, ones-le 64 _ (and_lt 64 c.within.result c.turned_word.result (omega (arith, c.within.type_inv)) (omega (arith, c.turned_word.type_inv))))

pub returns-then-count-gt-MOST_CORRECTED : goal.returns-then-count-gt-MOST_CORRECTED
returns-then-count-gt-MOST_CORRECTED c =
    let h = c.loop-i in
    let w = c.within in
    let v = c.turned_word in
    let small : bit_and w.result v.result < 2 ^ 64 = and_lt 64 w.result v.result (omega (arith, w.type_inv)) (omega (arith, v.type_inv)) in
    λ sums twice. omega (
      arith,
      c.if-count-gt-MOST_CORRECTED.true,
      (h.invariant.4 sums twice).0,
      ones_held (turned sums) (64 * h.i) 64 (bit_and w.result v.result) small (turned_held sums h.i w.result v.result w.ensures (v.ensures sums twice)),
    )

pub loop-i-preserved : goal.loop-i-preserved
loop-i-preserved c =
    let h = c.loop-i in
    let w = c.within in
    let v = c.turned_word in
    let x = bit_and w.result v.result in
    let small : x < 2 ^ 64 = and_lt 64 w.result v.result (omega (arith, w.type_inv)) (omega (arith, v.type_inv)) in
    let fits : h.i < length h.changed = omega (arith, h.invariant.1) in
    let next : 64 * (h.i + 1) ≡ 64 * h.i + 64 = omega arith in (
      omega (arith, c.if-count-gt-MOST_CORRECTED.false),
      length-set h.changed h.i x ∙ h.invariant.1,
      stored_below h.changed h.i x fits small h.invariant.2,
      stored_behind h.changed h.i x fits h.invariant.3,
      λ sums twice. let holds : Holds x (bit_at (turned sums)) (64 * h.i) = turned_held sums h.i w.result v.result w.ensures (v.ensures sums twice) in (
        omega (arith, (h.invariant.4 sums twice).0, ones_held (turned sums) (64 * h.i) 64 x small holds, ap (λ (m : ℕ). ones (drop m (turned sums))) next),
        stored_front h.changed h.i x fits (bit_at (turned sums)) holds (h.invariant.4 sums twice).1,
      ),
    )

pub returns : goal.returns
returns c =
    let h = c.loop-i in
    λ sums twice. let lies : Lies h.changed (turned sums) =
    λ p. elim (dec_lt p 320) [
      | yes g ↦ (h.invariant.4 sums twice).1 p (omega arith)
      | no g ↦ h.invariant.3 p (omega arith) ∙ sym (get_or-eq_default (turned sums) false {n = p} (omega (arith, length_turned sums)))
    ] in
    let five : FiveWords h.changed × (row_of_words h.changed ≡ turned sums) = lies_five h.changed (turned sums) h.invariant.1 h.invariant.2 (length_turned sums) lies in
    let all : h.count ≡ ones (turned sums) =
    omega (arith, (h.invariant.4 sums twice).0, ap ones (drop_of_length-le (turned sums) {i = 64 * h.i} (omega (arith, length_turned sums)))) in
    (five.0, five.1, all, omega (arith, h.invariant.0, all))
