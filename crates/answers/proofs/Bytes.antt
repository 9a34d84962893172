-- Laws of bytes, numbers below 256, by the kit's test `are_bytes`. Assumes nothing.
use Prim.Native.Nat.{ℕ, zero, suc, ◌<◌}
use mathlib.Core.Path.{◌≡◌, refl, sym, ap, ◌∙◌}
use mathlib.Core.Bool.{Bool, true, ◌&&◌, and-eq-true_iff, and_assoc}
use mathlib.Core.List.{List, [], ◌∷◌, ◌++◌}
use borrow.Author.Tests.{ltb-true, lt-ltb}
use lib.Dec.{ltb, lit<}
use lib.ListN.{get_or, take, drop, take-append-drop}
use lib.Pow.{are_bytes}

-- each is below 256, and where each is, they are bytes
pub byte_at : (xs : List ℕ) → are_bytes xs ≡ true → (k : ℕ) → get_or xs k 0 < 256
byte_at [] e k = lit< tt
byte_at (x ∷ xs) e zero = ltb-true x 256 ((and-eq-true_iff (ltb x 256) (are_bytes xs)).0 e).0
byte_at (x ∷ xs) e (suc k) = byte_at xs ((and-eq-true_iff (ltb x 256) (are_bytes xs)).0 e).1 k

pub bytes_each : (xs : List ℕ) → ((k : ℕ) → get_or xs k 0 < 256) → are_bytes xs ≡ true
bytes_each [] f = refl
bytes_each (x ∷ xs) f = rw (lt-ltb x 256 (f 0), bytes_each xs (λ k. f (suc k)))

pub byte_one : (x : ℕ) → x < 256 → are_bytes (x ∷ []) ≡ true
byte_one x h = rw (lt-ltb x 256 h)

-- lists of bytes, one behind the other, and the parts of one
pub bytes_append : (xs ys : List ℕ) → are_bytes (xs ++ ys) ≡ (are_bytes xs && are_bytes ys)
bytes_append [] ys = refl
bytes_append (x ∷ xs) ys = ap (λ (b : Bool). ltb x 256 && b) (bytes_append xs ys) ∙ sym (and_assoc (ltb x 256) (are_bytes xs) (are_bytes ys))

pub bytes_both : (xs ys : List ℕ) → are_bytes (xs ++ ys) ≡ true → (are_bytes xs ≡ true) × (are_bytes ys ≡ true)
bytes_both xs ys e = (and-eq-true_iff (are_bytes xs) (are_bytes ys)).0 (sym (bytes_append xs ys) ∙ e)

pub bytes_parts : (n : ℕ) (xs : List ℕ) → are_bytes xs ≡ true → (are_bytes (take n xs) ≡ true) × (are_bytes (drop n xs) ≡ true)
bytes_parts n xs e = bytes_both (take n xs) (drop n xs) (ap are_bytes (take-append-drop n xs) ∙ e)
