-- `words::of_bytes`: five words, each of some bytes. Assumes nothing.
use native.Mathlib.Omega.{arith}
use mathlib.Core.Path.{◌≡◌, refl, ◌∙◌}
use mathlib.Core.List.{List, [], ◌∷◌}
use Prim.Native.Nat.{ℕ}
use lib.ListN.{length}
use Rattle.words.specs.Bytes.{row_of}
use Rattle.words.specs.Words.{FiveWords, row_of_words}
use Rattle.words.proofs.Bytes.{length_bits_of}
use Rattle.words.proofs.Words.{zero_five, lies_five, five_below}
use Rattle.words.proofs.Outcomes.{block_lies}
use Rattle.words.proofs.of_bytes.Goals as goal

pub returns-then-bytes-ne-BLOCK_BYTES : goal.returns-then-bytes-ne-BLOCK_BYTES
returns-then-bytes-ne-BLOCK_BYTES c = record { five = zero_five; block = λ l. absurd (omega arith); other = λ n. refl }

pub returns : goal.returns
returns c =
    let w0 = c.word_at in
    let w1 = c.word_at-2 in
    let w2 = c.word_at-3 in
    let w3 = c.word_at-4 in
    let w4 = c.word_at-5 in
    let bytes = c.args.bytes.now in
    let long : length bytes ≡ 34 = omega arith in
    let words : List ℕ = w0.result ∷ w1.result ∷ w2.result ∷ w3.result ∷ w4.result ∷ [] in
    let five : FiveWords words × (row_of_words words ≡ row_of bytes) =
    lies_five words (row_of bytes) refl (five_below w0.result w1.result w2.result w3.result w4.result (omega (arith, w0.type_inv)) (omega (arith, w1.type_inv)) (omega (arith, w2.type_inv)) (omega (arith, w3.type_inv)) (omega (arith, w4.type_inv)))
    (length_bits_of 8 bytes ∙ omega arith)
    (block_lies bytes w0.result w1.result w2.result w3.result w4.result long w0.ensures.0 w1.ensures.0 w2.ensures.0 w3.ensures.0 w4.ensures.0 w4.ensures.1) in
    record { five = five.0; block = λ l. five.1; other = λ n. absurd (n long) }
