-- Lists in loops: the place where a loop stands, and what it has filled so far. Assumes nothing.
use mathlib.Core.Path.{◌≡◌, refl, sym, ap, ◌∙◌}
use mathlib.Core.Bool.{Bool, false}
use mathlib.Core.List.{List, [], ◌∷◌, ◌++◌, append-nil, append_assoc}
use Prim.Native.Nat.{ℕ, zero, suc, ◌+◌, ◌-◌, ◌<◌}
use native.Mathlib.Nat.{zero-add, add-zero}
use native.Mathlib.Numerals.{add-one}
use native.Mathlib.Omega.{arith}
use borrow.Rule.Slice.PartMut.{put_mid}
use lib.ListN.{length, get_or, set, take, drop, length-drop, drop_of_length-le}
use lib.Seq.{drop-cons, take-suc, length-take-le, set_at}
use Rattle.gf2.specs.Poly.{row_from}

-- a list from a place on: what stands there, and what is behind it
pub drop_one {ℓ} : {A : Type ℓ} (xs : List A) (i : ℕ) (d : A) → i < length xs → drop i xs ≡ get_or xs i d ∷ drop (i + 1) xs
drop_one xs i d h = rw add-one (drop-cons xs i d h)

-- the part of a slice from a on, given back
pub tail_back : {A : Type 0} (xs ys : List A) (a : ℕ) → put_mid a (length xs - a) xs ys ≡ take a xs ++ ys
tail_back {A} xs ys a =
    ap (λ (zs : List A). take a xs ++ (ys ++ zs)) (drop_of_length-le (drop a xs) {i = length xs - a} (omega (arith, length-drop a xs)))
    ∙ ap (λ (zs : List A). take a xs ++ zs) (append-nil ys)

-- the places below p hold the values of f
abbrev pub Filled : {A : Type 0} (d : A) (f : ℕ → A) → List A → ℕ → Type 0
Filled d f xs p = (i : ℕ) → i < p → get_or xs i d ≡ f i

-- the places below p are copied from another list, the rest is as it was
pub front_turn : {A : Type 0} (new old now : List A) (p : ℕ) (v d : A) → p < length new → p < length old → v ≡ get_or new p d
    → now ≡ take p new ++ drop p old → set now p v ≡ take (p + 1) new ++ drop (p + 1) old
front_turn {A} new old now p v d hn ho e q =
    ap (λ (xs : List A). set xs p v) (q ∙ ap (λ (xs : List A). take p new ++ xs) (drop_one old p d ho))
    ∙ set_at (take p new) (get_or old p d) (drop (p + 1) old) v p (length-take-le p new (omega arith))
    ∙ sym (append_assoc (take p new) (v ∷ []) (drop (p + 1) old))
    ∙ ap (λ (xs : List A). xs ++ drop (p + 1) old) (sym more)
  where
    more : take (p + 1) new ≡ take p new ++ (v ∷ [])
    more = rw (e, add-one) (take-suc new p d hn)

-- rows by their places
pub length_row_from : (f : ℕ → Bool) (p n : ℕ) → length (row_from f p n) ≡ n
length_row_from f p zero = refl
length_row_from f p (suc n) = ap suc (length_row_from f (suc p) n)

row_from_later : (f : ℕ → Bool) (p n i : ℕ) → i < n → get_or (row_from f p n) i false ≡ f (p + i)
row_from_later f p zero i h = absurd (omega arith)
row_from_later f p (suc n) zero h = ap f (sym (add-zero p))
row_from_later f p (suc n) (suc i) h = row_from_later f (suc p) n i (omega arith) ∙ ap f (omega arith)

pub get_or_row_from : (f : ℕ → Bool) (n i : ℕ) → i < n → get_or (row_from f 0 n) i false ≡ f i
get_or_row_from f n i h = row_from_later f 0 n i h ∙ ap f (zero-add i)

-- rows of the same bits, from any two places on
pub row_cong : (f g : ℕ → Bool) (p q n : ℕ) → ((k : ℕ) → k < n → f (p + k) ≡ g (q + k)) → row_from f p n ≡ row_from g q n
row_cong f g p q zero h = refl
row_cong f g p q (suc n) h =
    let here : f p ≡ g q = ap f (sym (add-zero p)) ∙ h 0 (omega arith) ∙ ap g (add-zero q) in
    λ i. here i ∷ row_cong f g (suc p) (suc q) n (λ k l. ap f (omega arith) ∙ h (suc k) (omega arith) ∙ ap g (omega arith)) i
