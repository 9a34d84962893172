-- Laws of a number in decimal. Assumes nothing.
use Prim.Native.Nat.{ℕ, suc, zero, ◌+◌, ◌-◌, ◌*◌, ◌/◌, ◌%◌, ◌^◌, ◌<◌, ◌≤◌}
use mathlib.Core.Path.{◌≡◌, refl, ap, sym, ◌∙◌}
use mathlib.Core.Bool.{Bool, true, false}
use mathlib.Core.List.{List, [], ◌∷◌, ◌++◌}
use native.Mathlib.Omega.{arith}
use native.Mathlib.Nat.{pow-suc, div-lt_iff_lt-mul, div-add-mod'}
use lib.ListN.{length, length-append}
use lib.Dec.{ltb}
use lib.Pow.{are_bytes}
use borrow.Author.Tests.{ltb-true, ltb-false, lt-ltb, le-ltb}
use Rattle.answers.proofs.Bytes.{byte_one, bytes_append}
use Rattle.logs.specs.Decimal.{decimal_up_to, decimal, number_from}
use Rattle.logs.specs.Reader.{is_plain}
use Rattle.logs.proofs.Lists.{cond_with}
use Rattle.logs.proofs.Plain.{plain_append, plain_one}

-- by cases on whether a number has one digit
by_ten {ℓ} : (P : Type ℓ) (n : ℕ) → (n < 10 → P) → (10 ≤ n → P) → P
by_ten P n f g = go (ltb n 10) refl
  where
    go : (t : Bool) → ltb n 10 ≡ t → P
    go true e = f (ltb-true n 10 e)
    go false e = g (ltb-false n 10 e)

spelled_few : (f n : ℕ) → n < 10 → decimal_up_to f n ≡ ((48 + n) ∷ [])
unfolding decimal_up_to
spelled_few zero n h = refl
spelled_few (suc f) n h = rw (lt-ltb n 10 h)

spelled_more : (f n : ℕ) → 10 ≤ n → decimal_up_to (suc f) n ≡ decimal_up_to f (n / 10) ++ ((48 + n % 10) ∷ [])
unfolding decimal_up_to
spelled_more f n h = rw (le-ltb n 10 h)

tenth : (f n : ℕ) → n < 10 ^ suc (suc f) → n / 10 < 10 ^ suc f
tenth f n h = (div-lt_iff_lt-mul {k = 10} (omega arith)).1 (rw (sym (pow-suc 10 (suc f))) h)

-- places that are not needed change nothing
spelled_same : (f n : ℕ) → n < 10 ^ suc f → decimal_up_to (suc f) n ≡ decimal_up_to f n
spelled_same zero n h = spelled_few 1 n h ∙ sym (spelled_few 0 n h)
spelled_same (suc f) n h =
    by_ten _ n (λ k. spelled_few (suc (suc f)) n k ∙ sym (spelled_few (suc f) n k))
    (λ k.
    spelled_more (suc f) n k ∙ ap (λ (l : List ℕ). l ++ ((48 + n % 10) ∷ [])) (spelled_same f (n / 10) (tenth f n h))
    ∙ sym (spelled_more f n k))

pub decimal_few : (n : ℕ) → n < 10 → decimal n ≡ ((48 + n) ∷ [])
unfolding decimal
decimal_few n h = spelled_few 19 n h

pub decimal_more : (n : ℕ) → 10 ≤ n → n < 10 ^ 20 → decimal n ≡ decimal (n / 10) ++ ((48 + n % 10) ∷ [])
unfolding decimal
decimal_more n h k =
    spelled_more 18 n h ∙ ap (λ (l : List ℕ). l ++ ((48 + n % 10) ∷ [])) (sym (spelled_same 18 (n / 10) (tenth 18 n k)))

spelled_length : (f n : ℕ) → (1 ≤ length (decimal_up_to f n)) × (length (decimal_up_to f n) ≤ suc f)
unfolding decimal_up_to
spelled_length zero n = (omega arith, omega arith)
spelled_length (suc f) n =
    by_ten _ n (λ k. rw (spelled_few (suc f) n k) (omega arith, omega arith))
    (λ k. let r = spelled_length f (n / 10) in rw (spelled_more f n k, length-append) (omega arith, omega arith))

pub decimal_length : (n : ℕ) → (1 ≤ length (decimal n)) × (length (decimal n) ≤ 20)
unfolding decimal
decimal_length n = spelled_length 19 n

-- digits, and then more
value_append : (a b : List ℕ) (v : ℕ) → number_from v (a ++ b) ≡ number_from (number_from v a) b
unfolding number_from
value_append [] b v = refl
value_append (x ∷ a) b v = value_append a b (v * 10 + (x - 48))

value_digit : (v d : ℕ) → number_from v ((48 + d) ∷ []) ≡ v * 10 + d
unfolding number_from
value_digit v d = let e : 48 + d - 48 ≡ d = omega arith in ap (λ (k : ℕ). v * 10 + k) e

spelled_value : (f n : ℕ) → n < 10 ^ suc f → number_from 0 (decimal_up_to f n) ≡ n
spelled_value zero n h = rw (spelled_few 0 n h) (value_digit 0 n ∙ omega arith)
spelled_value (suc f) n h =
    by_ten _ n (λ k. rw (spelled_few (suc f) n k) (value_digit 0 n ∙ omega arith))
    (λ k.
    rw (spelled_more f n k)
    (value_append (decimal_up_to f (n / 10)) ((48 + n % 10) ∷ []) 0
    ∙ ap (λ (v : ℕ). number_from v ((48 + n % 10) ∷ [])) (spelled_value f (n / 10) (tenth f n h))
    ∙ value_digit (n / 10) (n % 10) ∙ div-add-mod' n 10))

-- a numeral spells its number
decimal_value : (n : ℕ) → n < 10 ^ 20 → number_from 0 (decimal n) ≡ n
unfolding decimal
decimal_value n h = spelled_value 19 n h

pub decimal_once : (m n : ℕ) → m < 10 ^ 20 → n < 10 ^ 20 → decimal m ≡ decimal n → m ≡ n
decimal_once m n h k e = sym (decimal_value m h) ∙ ap (number_from 0) e ∙ decimal_value n k

-- a numeral is bytes
spelled_bytes : (f n : ℕ) → n < 10 ^ suc f → are_bytes (decimal_up_to f n) ≡ true
spelled_bytes zero n h = rw (spelled_few 0 n h) (byte_one (48 + n) (omega arith))
spelled_bytes (suc f) n h =
    by_ten _ n (λ k. rw (spelled_few (suc f) n k) (byte_one (48 + n) (omega arith)))
    (λ k. rw (spelled_more f n k, bytes_append, spelled_bytes f (n / 10) (tenth f n h)) (byte_one (48 + n % 10) (omega arith)))

pub decimal_bytes : (n : ℕ) → n < 10 ^ 20 → are_bytes (decimal n) ≡ true
unfolding decimal
decimal_bytes n h = spelled_bytes 19 n h

-- what each digit has, and two texts together
spelled_with : (P : List ℕ → Type 0) → ((d : ℕ) → P ((48 + d) ∷ [])) → ((a b : List ℕ) → P a → P b → P (a ++ b)) → (f n : ℕ) → P (decimal_up_to f n)
unfolding decimal_up_to
spelled_with P digit both zero n = digit n
spelled_with P digit both (suc f) n =
    cond_with P (ltb n 10) (λ e. digit n)
    (λ e. both (decimal_up_to f (n / 10)) ((48 + n % 10) ∷ []) (spelled_with P digit both f (n / 10)) (digit (n % 10)))

pub decimal_with : (P : List ℕ → Type 0) → ((d : ℕ) → P ((48 + d) ∷ [])) → ((a b : List ℕ) → P a → P b → P (a ++ b)) → (n : ℕ) → P (decimal n)
unfolding decimal
decimal_with P digit both n = spelled_with P digit both 19 n

pub decimal_plain : (n : ℕ) → is_plain (decimal n) ≡ true
decimal_plain n = decimal_with (λ (l : List ℕ). is_plain l ≡ true) (λ d. plain_one (48 + d) (λ e. omega arith)) plain_append n
