use borrow.Author.Rules.{rules}
use native.Mathlib.Omega.{arith}
use mathlib.Core.Path.{◌≡◌, refl, sym, ◌∙◌}
use mathlib.Core.Bool.{false}
use Prim.Native.Nat.{◌*◌, ◌<◌}
use lib.ListN.{length, take}
use lib.Seq.{ext_get_or, get_or-take, length-take-le}
use Rattle.words.specs.Bytes.{row_of}
use Rattle.words.specs.Words.{row_of_words}
use Rattle.words.proofs.Bytes.{length_bits_of, get_or_bits_of, byte_put}
use Rattle.words.proofs.Words.{length_row, bit_row}
use Rattle.words.proofs.fill_bytes.Goals as goal

pub returns-then-out-gt-BLOCK_BYTES : goal.returns-then-out-gt-BLOCK_BYTES
returns-then-out-gt-BLOCK_BYTES c = record { long = refl; block = λ h. absurd (omega arith); other = λ h. refl }

pub loop-k-preserved : goal.loop-k-preserved
loop-k-preserved c = let h = c.loop-k in byte_put c.args.row h.out h.k _ (omega arith) refl h.invariant

pub returns : goal.returns
returns c =
    let h = c.loop-k in
    let a = c.args in
    let row = a.row in
    let five : length row ≡ 5 = search rules in
    record {
      long = h.auto.out;
      block = λ few. ext_get_or false (row_of h.out) (take (8 * length a.out.now) (row_of_words row))
          (length_bits_of 8 h.out ∙ omega (arith, length-take-le (8 * length a.out.now) (row_of_words row) (omega (arith, length_row row five))))
          (λ p g. let here : p < 8 * length a.out.now = omega (arith, length_bits_of 8 h.out) in
          get_or_bits_of 8 h.out p (omega arith) ∙ h.invariant p (omega arith)
          ∙ sym (get_or-take (8 * length a.out.now) (row_of_words row) p false here ∙ bit_row row p five (omega arith)));
      other = λ many. absurd (omega arith);
    }
