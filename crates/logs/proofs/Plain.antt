-- Laws of bytes without a line feed. Assumes nothing.
use Prim.Native.Nat.{ℕ, suc}
use mathlib.Core.Path.{◌≡◌, refl, ap, sym, ◌∙◌, subst}
use mathlib.Core.Bool.{Bool, true, false, not, cond, ◌&&◌, ◌||◌, false≢true, and-eq-true_iff}
use mathlib.Core.List.{List, [], ◌∷◌, ◌++◌, append_assoc, append-nil}
use lib.ListN.{get_or, take, drop}
use lib.Dec.{eqb}
use borrow.Author.Tests.{ne_eqb, eqb-true, eqb-false}
use Rattle.std.specs.List.{list_any}
use Rattle.text.specs.Find.{index_of}
use Rattle.logs.specs.Reader.{is_plain}
use Rattle.logs.proofs.Lists.{by_cases}

pub plain_none : is_plain [] ≡ true
unfolding is_plain
plain_none = refl

pub plain_append : (a b : List ℕ) → is_plain a ≡ true → is_plain b ≡ true → is_plain (a ++ b) ≡ true
unfolding is_plain
plain_append [] b h k = k
plain_append (x ∷ a) b h k =
    let r = (and-eq-true_iff (not (eqb x 10)) (is_plain a)).0 h in
    rw r.0 (plain_append a b r.1 k)

pub plain_one : (x : ℕ) → (x ≡ 10 → ⊥) → is_plain (x ∷ []) ≡ true
unfolding is_plain
plain_one x h = rw (ne_eqb x 10 h)

pub plain_tail : (x : ℕ) (l : List ℕ) → is_plain (x ∷ l) ≡ true → (not (eqb x 10) ≡ true) × (is_plain l ≡ true)
unfolding is_plain
plain_tail x l h = (and-eq-true_iff (not (eqb x 10)) (is_plain l)).0 h

-- by induction over lines: a line before what follows its line feed, and at last what has none
pub lines_with : (P : List ℕ → Type 0) → ((left : List ℕ) → is_plain left ≡ true → P left)
    → ((line more : List ℕ) → is_plain line ≡ true → P more → P (line ++ (10 ∷ more))) → (l : List ℕ) → P l
lines_with P f g l = from l [] plain_none
  where
    from : (l held : List ℕ) → is_plain held ≡ true → P (held ++ l)
    from [] held p = subst P (sym (append-nil held)) (f held p)
    from (x ∷ l) held p =
        by_cases (P (held ++ (x ∷ l))) (eqb x 10)
        (λ e. subst (λ (y : ℕ). P (held ++ (y ∷ l))) (sym (eqb-true x 10 e)) (g held l p (from l [] plain_none)))
        (λ e. subst P (append_assoc held (x ∷ []) l) (from l (held ++ (x ∷ [])) (plain_append held (x ∷ []) p (plain_one x (eqb-false x 10 e)))))

pub not_plain : (a b : List ℕ) → is_plain (a ++ (10 ∷ b)) ≡ true → ⊥
not_plain [] b p = false≢true (plain_tail 10 b p).0
not_plain (x ∷ a) b p = not_plain a b (plain_tail x (a ++ (10 ∷ b)) p).1

-- the bytes before the first line feed, and those after it
pub plain_cut : (a b c d : List ℕ) → is_plain a ≡ true → is_plain b ≡ true → a ++ (10 ∷ c) ≡ b ++ (10 ∷ d) → (a ≡ b) × (c ≡ d)
plain_cut [] [] c d p q e = (refl, ap (drop 1) e)
plain_cut [] (y ∷ b) c d p q e = absurd (not_plain [] b (subst (λ (z : ℕ). is_plain (z ∷ b) ≡ true) (sym (ap (λ (l : List ℕ). get_or l 0 0) e)) q))
plain_cut (x ∷ a) [] c d p q e = absurd (not_plain [] a (subst (λ (z : ℕ). is_plain (z ∷ a) ≡ true) (ap (λ (l : List ℕ). get_or l 0 0) e) p))
plain_cut (x ∷ a) (y ∷ b) c d p q e =
    let h : x ≡ y = ap (λ (l : List ℕ). get_or l 0 0) e in
    let r = plain_cut a b c d (plain_tail x a p).1 (plain_tail y b q).1 (ap (drop 1) e) in
    ((λ i. h i ∷ r.0 i), r.1)

-- a line feed is looked for, and none is found
pub plain_any : (l : List ℕ) → not (list_any (λ b. eqb b 10) l) ≡ is_plain l
unfolding is_plain
plain_any [] = refl
plain_any (b ∷ l) = elim (eqb b 10) as (λ t. not (t || list_any (λ b. eqb b 10) l) ≡ (not t && is_plain l)) [ true ↦ refl | false ↦ plain_any l ]

-- the bytes before the first line feed have none, and it stands behind them
pub plain_before : (l : List ℕ) → is_plain (take (index_of 10 l) l) ≡ true
unfolding is_plain index_of
plain_before [] = refl
plain_before (b ∷ l) = before (eqb b 10) refl (plain_before l)
  where
    before : (t : Bool) → eqb b 10 ≡ t → is_plain (take (index_of 10 l) l) ≡ true → is_plain (take (cond t 0 (suc (index_of 10 l))) (b ∷ l)) ≡ true
    before true e h = refl
    before false e h = rw e h

pub feed_behind : (l : List ℕ) (b : ℕ) (rest : List ℕ) → drop (index_of 10 l) l ≡ b ∷ rest → b ≡ 10
unfolding index_of
feed_behind [] b rest f = cc
feed_behind (x ∷ l) b rest f = behind (eqb x 10) refl (feed_behind l b rest) f
  where
    behind : (t : Bool) → eqb x 10 ≡ t → (drop (index_of 10 l) l ≡ b ∷ rest → b ≡ 10) → drop (cond t 0 (suc (index_of 10 l))) (x ∷ l) ≡ b ∷ rest → b ≡ 10
    behind true e g f = sym (ap (λ (k : List ℕ). get_or k 0 0) f) ∙ eqb-true x 10 e
    behind false e g f = g f
