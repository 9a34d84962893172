-- The laws of remainders, over the degree and any divisor: they serve the checks of 6, 14 and 82 bits. Assumes nothing.
use mathlib.Core.Path.{◌≡◌, refl, sym, ap, ◌∙◌, subst}
use mathlib.Core.Bool.{Bool, true, false, false≢true}
use mathlib.Core.List.{List, [], ◌∷◌, ◌++◌}
use Prim.Native.Nat.{ℕ, zero, suc, ◌+◌}
use native.Mathlib.Nat.{zero-add, suc-add}
use native.Mathlib.Omega.{arith}
use lib.ListN.{length, replicate, length-replicate, length-append, length-drop}
use Rattle.gf2.specs.Poly.{◌⊕◌, scale, add, times, divided, remainder, Multiple, check_of, systematic}
use Rattle.gf2.proofs.Bits.{⊕_self, ⊕_false, ⊕_twice, ⊕_swap, ⊕_zero, ⊕_&&}

-- lengths
pub length_scale : (b : Bool) (xs : List Bool) → length (scale b xs) ≡ length xs
length_scale b [] = refl
length_scale b (x ∷ xs) = ap suc (length_scale b xs)

pub length_add : (xs ys : List Bool) → length (add xs ys) ≡ length ys
length_add [] ys = refl
length_add (x ∷ xs) [] = refl
length_add (x ∷ xs) (y ∷ ys) = ap suc (length_add xs ys)

pub length_times : (low q : List Bool) → length (times low q) ≡ length q + length low
length_times low [] = length-replicate (length low) false ∙ sym (zero-add (length low))
length_times low (b ∷ q) =
    ap suc (length_add (scale b low) (times low q) ∙ length_times low q) ∙ sym (suc-add (length q) (length low))

pub length_divided : (low : List Bool) (k : ℕ) (row : List Bool) → length (divided low k row) ≡ length row
length_divided low zero row = refl
length_divided low (suc k) [] = refl
length_divided low (suc k) (b ∷ row) = ap suc (length_divided low k (add (scale b low) row) ∙ length_add (scale b low) row)

pub length_remainder : (low : List Bool) (k : ℕ) (row : List Bool) (d : ℕ) → length row ≡ k + d → length (remainder low k row) ≡ d
length_remainder low k row d h = length-drop k (divided low k row) ∙ omega (arith, length_divided low k row)

-- sums of rows
pub add_twice : (xs ys : List Bool) → add xs (add xs ys) ≡ ys
add_twice [] ys = refl
add_twice (x ∷ xs) [] = refl
add_twice (x ∷ xs) (y ∷ ys) = λ i. ⊕_twice x y i ∷ add_twice xs ys i

pub add_self : (xs : List Bool) → add xs xs ≡ replicate (length xs) false
add_self [] = refl
add_self (x ∷ xs) = λ i. ⊕_self x i ∷ add_self xs i

pub add_zeros : (xs : List Bool) → add xs (replicate (length xs) false) ≡ xs
add_zeros [] = refl
add_zeros (x ∷ xs) = λ i. ⊕_false x i ∷ add_zeros xs i

pub add_none : (xs ys : List Bool) (n : ℕ) → length xs ≡ length ys → add xs ys ≡ replicate n false → xs ≡ ys
add_none [] [] n l e = refl
add_none [] (y ∷ ys) n l e = absurd (omega arith)
add_none (x ∷ xs) [] n l e = absurd (omega arith)
add_none (x ∷ xs) (y ∷ ys) zero l e = let z : length (x ⊕ y ∷ add xs ys) ≡ 0 = ap length e in absurd (omega arith)
add_none (x ∷ xs) (y ∷ ys) (suc n) l e =
    let here : x ⊕ y ≡ false = cc in
    let rest : add xs ys ≡ replicate n false = cc in
    λ i. ⊕_zero x y here i ∷ add_none xs ys n (omega arith) rest i

-- the quotient of the same division
quotient_of : List Bool → ℕ → List Bool → List Bool
quotient_of low zero row = []
quotient_of low (suc k) [] = []
quotient_of low (suc k) (b ∷ row) = b ∷ quotient_of low k (add (scale b low) row)

shorter : (low : List Bool) (k : ℕ) (b : Bool) (row : List Bool) → length (b ∷ row) ≡ suc k + length low
    → length (add (scale b low) row) ≡ k + length low
shorter low k b row h = length_add (scale b low) row ∙ omega arith

length_quotient : (low : List Bool) (k : ℕ) (row : List Bool) → length row ≡ k + length low → length (quotient_of low k row) ≡ k
unfolding quotient_of
length_quotient low zero row h = refl
length_quotient low (suc k) [] h = absurd (omega arith)
length_quotient low (suc k) (b ∷ row) h = ap suc (length_quotient low k (add (scale b low) row) (shorter low k b row h))

quotient_times : (low : List Bool) (k : ℕ) (row : List Bool) → length row ≡ k + length low
    → remainder low k row ≡ replicate (length low) false → row ≡ times low (quotient_of low k row)
unfolding quotient_of
quotient_times low zero row h r = r
quotient_times low (suc k) [] h r = absurd (omega arith)
quotient_times low (suc k) (b ∷ row) h r =
    ap {B = List Bool} (λ xs. b ∷ xs)
    (sym (add_twice (scale b low) row) ∙ ap (add (scale b low)) (quotient_times low k (add (scale b low) row) (shorter low k b row h) r))

remainder_times : (low q : List Bool) → remainder low (length q) (times low q) ≡ replicate (length low) false
remainder_times low [] = refl
remainder_times low (b ∷ q) = ap (remainder low (length q)) (add_twice (scale b low) (times low q)) ∙ remainder_times low q

-- A ROW IS A MULTIPLE EXACTLY WHERE ITS REMAINDER IS ZERO
pub multiple_remainder : (low : List Bool) (k : ℕ) (row : List Bool) → Multiple low k row → remainder low k row ≡ replicate (length low) false
multiple_remainder low k row m =
    ap (remainder low k) m.product
    ∙ subst (λ (n : ℕ). remainder low n (times low m.quotient) ≡ replicate (length low) false) m.long (remainder_times low m.quotient)

pub remainder_multiple : (low : List Bool) (k : ℕ) (row : List Bool) → length row ≡ k + length low
    → remainder low k row ≡ replicate (length low) false → Multiple low k row
remainder_multiple low k row h r =
    record { quotient = quotient_of low k row; long = length_quotient low k row h; product = quotient_times low k row h r }

pub multiple_length : (low : List Bool) (k : ℕ) (row : List Bool) → Multiple low k row → length row ≡ k + length low
multiple_length low k row m = ap length m.product ∙ length_times low m.quotient ∙ ap (λ (n : ℕ). n + length low) m.long

-- THE REMAINDER OF A SUM IS THE SUM OF THE REMAINDERS
scale_⊕ : (x y : Bool) (low : List Bool) → scale (x ⊕ y) low ≡ add (scale x low) (scale y low)
scale_⊕ x y [] = refl
scale_⊕ x y (l ∷ low) = λ i. ⊕_&& x y l i ∷ scale_⊕ x y low i

add_swap : (us vs xs ys : List Bool) → length us ≡ length vs → length xs ≡ length ys → add (add us vs) (add xs ys) ≡ add (add us xs) (add vs ys)
add_swap [] [] xs ys h l = refl
add_swap [] (v ∷ vs) xs ys h l = absurd (omega arith)
add_swap (u ∷ us) [] xs ys h l = absurd (omega arith)
add_swap (u ∷ us) (v ∷ vs) [] [] h l = refl
add_swap (u ∷ us) (v ∷ vs) [] (y ∷ ys) h l = absurd (omega arith)
add_swap (u ∷ us) (v ∷ vs) (x ∷ xs) [] h l = absurd (omega arith)
add_swap (u ∷ us) (v ∷ vs) (x ∷ xs) (y ∷ ys) h l = λ i. ⊕_swap u v x y i ∷ add_swap us vs xs ys (omega arith) (omega arith) i

pub remainder_sum : (low : List Bool) (k : ℕ) (xs ys : List Bool) → length xs ≡ length ys
    → remainder low k (add xs ys) ≡ add (remainder low k xs) (remainder low k ys)
remainder_sum low zero xs ys l = refl
remainder_sum low (suc k) [] [] l = refl
remainder_sum low (suc k) [] (y ∷ ys) l = absurd (omega arith)
remainder_sum low (suc k) (x ∷ xs) [] l = absurd (omega arith)
remainder_sum low (suc k) (x ∷ xs) (y ∷ ys) l =
    ap (remainder low k)
    (ap (λ zs. add zs (add xs ys)) (scale_⊕ x y low)
    ∙ add_swap (scale x low) (scale y low) xs ys (length_scale x low ∙ sym (length_scale y low)) (omega arith))
    ∙ remainder_sum low k (add (scale x low) xs) (add (scale y low) ys) (length_add (scale x low) xs ∙ omega (arith, length_add (scale y low) ys))

-- a factor, and leading zeros, which bring nothing in
pub scale_true : (xs : List Bool) → scale true xs ≡ xs
scale_true [] = refl
scale_true (x ∷ xs) = ap {B = List Bool} (λ ys. x ∷ ys) (scale_true xs)

pub add_scale_false : (xs ys : List Bool) → add (scale false xs) ys ≡ ys
add_scale_false [] ys = refl
add_scale_false (x ∷ xs) [] = refl
add_scale_false (x ∷ xs) (y ∷ ys) = ap {B = List Bool} (λ zs. y ∷ zs) (add_scale_false xs ys)

remainder_zeros : (low : List Bool) (k : ℕ) (ending : List Bool) → remainder low k (replicate k false ++ ending) ≡ ending
remainder_zeros low zero ending = refl
remainder_zeros low (suc k) ending = ap (remainder low k) (add_scale_false low (replicate k false ++ ending)) ∙ remainder_zeros low k ending

add_behind : (info ending : List Bool) → add (replicate (length info) false ++ ending) (info ++ replicate (length ending) false) ≡ info ++ ending
add_behind [] ending = add_zeros ending
add_behind (b ∷ info) ending = ap {B = List Bool} (λ xs. b ∷ xs) (add_behind info ending)

pub length_check : (low info : List Bool) → length (check_of low info) ≡ length low
length_check low info =
    length_remainder low (length info) (info ++ replicate (length low) false) (length low)
    (length-append info (replicate (length low) false) ∙ ap (λ (n : ℕ). length info + n) (length-replicate (length low) false))

-- A CHECK IS THE SUM OF WHAT ITS BITS BRING IN: a zero in front nothing, and a one what it brings with zeros behind it
pub check_zero : (low info : List Bool) → check_of low (false ∷ info) ≡ check_of low info
check_zero low info = ap (remainder low (length info)) (add_scale_false low (info ++ replicate (length low) false))

pub check_bit : (low : List Bool) (b : Bool) (info : List Bool)
    → check_of low (b ∷ info) ≡ add (scale b (check_of low (true ∷ replicate (length info) false))) (check_of low info)
check_bit low false info = check_zero low info ∙ sym (add_scale_false (check_of low (true ∷ replicate (length info) false)) (check_of low info))
check_bit low true info =
    let n = length info in
    let zeros = replicate (length low) false in
    let long : length zeros ≡ length low = length-replicate (length low) false in
    let behind : add (replicate n false ++ zeros) (info ++ zeros) ≡ info ++ zeros =
    ap (λ (d : ℕ). add (replicate n false ++ zeros) (info ++ replicate d false)) (sym long) ∙ add_behind info zeros in
    let one : remainder low (suc n) (true ∷ (replicate n false ++ zeros)) ≡ check_of low (true ∷ replicate n false) =
    ap (λ (k : ℕ). remainder low (suc k) (true ∷ (replicate n false ++ zeros))) (sym (length-replicate n false)) in
    ap (λ (row : List Bool). remainder low (suc n) (true ∷ row)) (sym behind)
    ∙ remainder_sum low (suc n) (true ∷ (replicate n false ++ zeros)) (false ∷ (info ++ zeros)) (ap suc (simp (length-append, length-replicate)))
    ∙ (λ i. add ((one ∙ sym (scale_true (check_of low (true ∷ replicate n false)))) i) (check_zero low info i))

-- the remainder of information with an ending is what that ending lacks of the check
pub remainder_ending : (low info ending : List Bool) → length ending ≡ length low
    → remainder low (length info) (info ++ ending) ≡ add ending (check_of low info)
remainder_ending low info ending h =
    ap (remainder low (length info)) (sym (add_behind info ending))
    ∙ remainder_sum low (length info) (replicate (length info) false ++ ending) (info ++ replicate (length ending) false)
    (simp (length-append, length-replicate))
    ∙ (λ i. add (remainder_zeros low (length info) ending i) (remainder low (length info) (info ++ replicate (h i) false)))

-- INFORMATION FOLLOWED BY ITS CHECK IS A MULTIPLE
pub systematic_multiple : (low info : List Bool) → Multiple low (length info) (systematic low info)
systematic_multiple low info =
    let l = length_check low info in
    remainder_multiple low (length info) (systematic low info) (length-append info (check_of low info) ∙ ap (λ (n : ℕ). length info + n) l)
    (remainder_ending low info (check_of low info) l ∙ add_self (check_of low info) ∙ ap (λ (n : ℕ). replicate n false) l)

-- AND THE CHECK IS THE ONLY ENDING THAT MAKES ONE
pub only_ending : (low info ending : List Bool) → length ending ≡ length low → Multiple low (length info) (info ++ ending) → ending ≡ check_of low info
only_ending low info ending h m =
    add_none ending (check_of low info) (length low) (h ∙ sym (length_check low info))
    (sym (remainder_ending low info ending h) ∙ multiple_remainder low (length info) (info ++ ending) m)

-- every place of a row is zero, as a test that is computed
abbrev pub all_zero : List Bool → Bool
all_zero [] = true
all_zero (true ∷ row) = false
all_zero (false ∷ row) = all_zero row

pub zeros_all_zero : (n : ℕ) → all_zero (replicate n false) ≡ true
zeros_all_zero zero = refl
zeros_all_zero (suc n) = zeros_all_zero n

pub all_zero_zeros : (row : List Bool) → all_zero row ≡ true → row ≡ replicate (length row) false
all_zero_zeros [] t = refl
all_zero_zeros (true ∷ row) t = absurd (false≢true t)
all_zero_zeros (false ∷ row) t = ap {B = List Bool} (λ xs. false ∷ xs) (all_zero_zeros row t)
