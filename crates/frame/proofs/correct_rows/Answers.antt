use borrow.Author.Rules.{rules}
use native.Mathlib.Omega.{arith}
use mathlib.Core.Path.{◌≡◌, refl, sym, ◌∙◌, subst}
use Prim.Native.Nat.{ℕ, ◌+◌, ◌-◌, ◌*◌}
use borrow.Rule.Slice.PartMut.{mid_of, mid_len, same_len_mid}
use lib.ListN.{length}
use Rattle.gf2.proofs.Bits.{number_of_bit}
use Rattle.words.specs.Bytes.{row_of}
use Rattle.frame.specs.Frames.{Becomes, start}
use Rattle.frame.proofs.Stages.{refused_one}
use Rattle.frame.proofs.Rows.{stage_turn, left_turn}
use Rattle.frame.proofs.correct_rows.Goals as goal

pub loop-n-init : goal.loop-n-init
loop-n-init c = (c.told-frame, search rules, start, λ m h. refl)

pub loop-n-preserved : goal.loop-n-preserved
loop-n-preserved c =
    let h = c.loop-n in
    let first = c.args.frame.now in
    let row = c.correct_row in
    let n = h.n in
    let whole : length row.new.row ≡ 34 = row.auto.row ∙ mid_len (34 * n) (34 * n + 34) h.frame (omega arith) ∙ omega arith in
    let becomes : Becomes (row_of (mid_of (34 * n) (34 * n + 34 - 34 * n) h.frame)) (row_of row.new.row) c.from-refused.result =
    subst (λ (more : ℕ). Becomes (row_of (mid_of (34 * n) (34 * n + 34 - 34 * n) h.frame)) (row_of row.new.row) more) (sym (c.from-refused.ensures ∙ number_of_bit row.result)) row.ensures in (
      same_len_mid (34 * n) (34 * n + 34 - 34 * n) h.frame row.new.row row.auto.row ∙ h.invariant.0,
      omega (arith, refused_one becomes),
      stage_turn h.frame row.new.row n (34 * n + 34) h.invariant.0 (omega arith) whole refl first h.refused c.from-refused.result h.invariant.3 h.invariant.2 becomes,
      left_turn h.frame row.new.row n (34 * n + 34) h.invariant.0 (omega arith) whole refl first h.invariant.3,
    )
