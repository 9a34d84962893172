-- NO TWO OUTCOMES MEET A PROMISE of this crate's public functions. Assumes nothing.
use mathlib.Core.Path.{◌≡◌, refl, sym, ap, ◌∙◌}
use mathlib.Core.Bool.{Bool, true}
use mathlib.Core.List.{List}
use Prim.Native.Nat.{ℕ}
use native.Mathlib.Decide.{dec_lt, ℕ_discrete}
use native.Mathlib.Omega.{arith}
use lib.ListN.{length}
use lib.Pow.{are_bytes}
use Rattle.code.specs.Code.{difference, ones}
use Rattle.code.proofs.Majority.{only_word}
use Rattle.std.specs.Prelude.{Option, Some, None}
use Rattle.words.specs.declared.Found.{Found}
use Rattle.words.specs.Words.{row_of_words, OfBytes, FilledBytes}
use Rattle.words.specs.Near.{Near, Searched}
use Rattle.words.proofs.Bytes.{row_once}
use Rattle.words.proofs.Words.{words_once, length_row}

-- `of_bytes`
pub of_bytes_once : (bytes xs ys : List ℕ) → OfBytes bytes xs → OfBytes bytes ys → xs ≡ ys
of_bytes_once bytes xs ys u v =
    elim (ℕ_discrete (length bytes) 34) [
      | yes l ↦ words_once xs ys u.five v.five (u.block l ∙ sym (v.block l))
      | no n ↦ u.other n ∙ sym (v.other n)
    ]

-- `fill_bytes`, where the output holds bytes
pub fill_bytes_once : (words before x y : List ℕ) → are_bytes x ≡ true → are_bytes y ≡ true → FilledBytes words before x → FilledBytes words before y → x ≡ y
fill_bytes_once words before x y bx by u v =
    elim (dec_lt 34 (length before)) [
      | yes l ↦ u.other l ∙ sym (v.other l)
      | no n ↦ row_once x y bx by (u.long ∙ sym v.long) (u.block (omega arith) ∙ sym (v.block (omega arith)))
    ]

-- a code word within eight places is the only one, and so are the places and their number
pub found_once : {row u v : List Bool} {m n : ℕ} {xs ys : List ℕ} → length row ≡ 272 → Near row u m xs → Near row v n ys → (u ≡ v) × ((m ≡ n) × (xs ≡ ys))
found_once {row} {u} {v} {m} {n} {xs} {ys} l p q =
    let word : u ≡ v = only_word row u v l p.code q.code p.near q.near in
    let changed : xs ≡ ys = words_once xs ys p.words q.words (p.places ∙ ap (difference row) word ∙ sym q.places) in
    (word, (p.counts ∙ ap (λ zs. ones (row_of_words zs)) changed ∙ sym q.counts, changed))

-- `search`, of five words
pub search_once : (words : List ℕ) (r s : Option Found) → length words ≡ 5 → Searched (row_of_words words) r → Searched (row_of_words words) s → r ≡ s
search_once words (Some x) (Some y) five u v =
    let once = found_once (length_row words five) u.1 v.1 in
    let word = words_once x.word y.word u.0 v.0 once.0 in
    λ i. Some (record { word = word i; count = once.1.0 i; changed = once.1.1 i })
search_once words (Some x) None five u v = absurd (v (row_of_words x.word) u.1.code u.1.near)
search_once words None (Some y) five u v = absurd (u (row_of_words y.word) v.1.code v.1.near)
search_once words None None five u v = refl
