-- Laws of bytes that are read from the front. Assumes nothing.
use Rattle.std.proofs.Common.{◌≡◌, ℕ, zero, suc, ◌+◌, ◌-◌, ◌*◌, ◌/◌, ◌%◌, ◌<◌, ◌≤◌, Bool, true, false, cond, ◌&&◌, leb, leb-true, List, [], ◌∷◌, ◌++◌, length, get_or, take, drop, set, refl, sym, ap, ◌∙◌, arith, Option, Some, None, is_some}
use mathlib.Core.Bool.{and-eq-true_iff, false≢true}
use Rattle.std.specs.Option.{unwrap_or}
use Rattle.std.proofs.lemmas.Bool.{false_from_ne_true}
use Rattle.std.proofs.lemmas.List.{append_assoc, drop-drop, drop_more, length-take-le, set_at, take_more}
use Rattle.std.proofs.lemmas.Slice.Eq.{bytes_eq-Decides}
use Rattle.text.specs.Find.{index_of}
use Rattle.text.specs.Fields.{same_as, field_of}
use Rattle.text.specs.Ascii.{tab, byte}
use Rattle.text.specs.Hexadecimal.{digit_of, decoded}
use Rattle.text.specs.Numbers.{is_decimal}

-- the test of lists that are the same
pub same_refl : (a : List ℕ) → same_as a a ≡ true
same_refl a = (bytes_eq-Decides a a).1 refl

pub same_true : (a b : List ℕ) → same_as a b ≡ true → a ≡ b
same_true a b e = (bytes_eq-Decides a b).0 e

-- lists of other lengths differ
pub other_length : (a b : List ℕ) → (length a ≡ length b → ⊥) → same_as a b ≡ false
other_length a b h = false_from_ne_true (same_as a b) (λ e. h (ap length (same_true a b e)))

-- Where a line has no tab its other fields are empty, and behind its first tab they stand in order.
no_field : (index : ℕ) → field_of index [] ≡ []
unfolding index_of
no_field zero = refl
no_field (suc index) = no_field index

behind_tab : (line rest : List ℕ) (n : ℕ) → n ≡ index_of tab line → drop n line ≡ rest → drop (suc (index_of tab line)) line ≡ drop 1 rest
behind_tab line rest n e d = let more : suc (index_of tab line) ≡ n + 1 = omega (arith, e) in ap (λ (k : ℕ). drop k line) more ∙ sym (drop-drop 1 n line) ∙ ap (drop 1) d

pub field_none : (index : ℕ) (line rest : List ℕ) (n : ℕ) → n ≡ index_of tab line → rest ≡ drop n line → length rest ≡ 0 → 0 < index → field_of index line ≡ []
field_none zero line rest n e d none h = absurd (omega arith)
field_none (suc index) line [] n e d none h = ap (field_of index) (behind_tab line [] n e (sym d)) ∙ no_field index
field_none (suc index) line (x ∷ rest) n e d none h = absurd (omega (arith, none))

pub field_behind : (left index : ℕ) (line : List ℕ) (n x : ℕ) (rest behind : List ℕ) → n ≡ index_of tab line → rest ≡ drop n line → rest ≡ x ∷ behind → index ≡ suc left
    → field_of left behind ≡ field_of index line
field_behind left index line n x rest behind e d is h = sym (ap (λ (k : ℕ). field_of k line) h ∙ ap (field_of left) (behind_tab line (x ∷ behind) n e (sym d ∙ is)))

-- the value of a digit: the low half of its byte, and nine more of a letter
pub value_is : (b : ℕ) → is_some (digit_of b) ≡ true → digit_of b ≡ Some (b % 16 + 9 * (b / 64))
value_is b h = by_range (is_decimal b) (leb (byte "a") b && leb b (byte "f")) (leb (byte "A") b && leb b (byte "F")) refl refl refl h
  where
    ranged : (low high : ℕ) → (leb low b && leb b high) ≡ true → (low ≤ b) × (b ≤ high)
    ranged low high e = let t = (and-eq-true_iff (leb low b) (leb b high)).0 e in (leb-true low b t.0, leb-true b high t.1)

    of_range : (decimal small great : Bool) → Option ℕ
    of_range decimal small great = cond decimal (Some (b - byte "0")) (cond small (Some (b - byte "a" + 10)) (cond great (Some (b - byte "A" + 10)) None))

    by_range : (decimal small great : Bool) → is_decimal b ≡ decimal → (leb (byte "a") b && leb b (byte "f")) ≡ small → (leb (byte "A") b && leb b (byte "F")) ≡ great
        → is_some (of_range decimal small great) ≡ true → of_range decimal small great ≡ Some (b % 16 + 9 * (b / 64))
    by_range true small great d s g h = let r = ranged 48 57 d in ap Some (omega (arith, r.0, r.1))
    by_range false true great d s g h = let r = ranged 97 102 s in ap Some (omega (arith, r.0, r.1))
    by_range false false true d s g h = let r = ranged 65 70 g in ap Some (omega (arith, r.0, r.1))
    by_range false false false d s g h = absurd (false≢true h)

-- as many bytes as pairs of digits
pub length-decoded : (s : List ℕ) → length (decoded s) ≡ length s / 2
length-decoded [] = refl
length-decoded (a ∷ []) = refl
length-decoded (a ∷ b ∷ s) = omega (arith, length-decoded s)

-- the byte of a pair
pub decoded_at : (s : List ℕ) (i high low : ℕ) → 2 * i + 1 < length s → digit_of (get_or s (2 * i) 0) ≡ Some high → digit_of (get_or s (2 * i + 1) 0) ≡ Some low
    → high * 16 + low ≡ get_or (decoded s) i 0
decoded_at [] i high low h p q = absurd (omega arith)
decoded_at (a ∷ []) i high low h p q = absurd (omega arith)
decoded_at (a ∷ b ∷ s) zero high low h p q = omega (arith, ap (λ d. unwrap_or d 0) p, ap (λ d. unwrap_or d 0) q)
decoded_at (a ∷ b ∷ s) (suc i) high low h p q =
    let e : 2 * suc i ≡ suc (suc (2 * i)) = omega arith in
    let o : 2 * suc i + 1 ≡ suc (suc (2 * i + 1)) = omega arith in
    decoded_at s i high low (omega arith) (rw e at p) (rw o at q)

-- one byte more is stored
pub stored : (xs bytes was : List ℕ) (i v : ℕ) → xs ≡ take i bytes ++ drop i was → i < length bytes → i < length was → v ≡ get_or bytes i 0 → set xs i v ≡ take (i + 1) bytes ++ drop (i + 1) was
stored xs bytes was i v e h k w =
    let here = drop_more was i 0 k in
    let put = set_at (take i bytes) (get_or was i 0) (drop (i + 1) was) v i (length-take-le i bytes (omega arith)) in
    let more = take_more bytes i 0 h in
    let joined = append_assoc (take i bytes) (v ∷ []) (drop (i + 1) was) in
    cc
