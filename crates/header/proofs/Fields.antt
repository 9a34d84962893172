-- Fields written and read, over any widths: each undoes the other. Bytes are fields of eight bits. Assumes nothing.
use Prim.Native.Nat.{ℕ, zero, suc, ◌+◌, ◌*◌, ◌/◌, ◌%◌, ◌^◌, ◌<◌}
use mathlib.Core.Path.{◌≡◌, refl, sym, ap, ◌∙◌, subst}
use mathlib.Core.Bool.{true, and-eq-true_iff}
use mathlib.Core.List.{List, [], ◌∷◌}
use native.Mathlib.Nat.{mul_assoc, mul-zero, mul-suc, add-mul, add_assoc, add_comm, div-one, div-add-mod', mod-lt, mod-one, mod-eq_of_lt, zero-mul}
use native.Mathlib.Omega.{arith}
use borrow.Author.Tests.{ltb-true}
use lib.Dec.{ltb}
use lib.ListN.{length, replicate, length-replicate}
use lib.Pow.{pow_pos, pow-add, shr-shr, high, low, mod-pow-add, are_bytes}
use Rattle.header.specs.Header.{Fit, total, behind, packed, fields, bytes_of, header_from}

-- what stands before the fields is above them
before_fields : (before : ℕ) (ws vs : List ℕ) → Fit ws vs → behind before ws vs / 2 ^ total ws ≡ before
before_fields before [] [] f = div-one before
before_fields before [] (v ∷ vs) f = absurd f
before_fields before (w ∷ ws) [] f = absurd f
before_fields before (w ∷ ws) (v ∷ vs) f =
    let x = behind (before * 2 ^ w + v) ws vs in
    ap (λ (n : ℕ). x / 2 ^ n) (add_comm w (total ws))
    ∙ sym (shr-shr x (total ws) w)
    ∙ ap (λ (n : ℕ). n / 2 ^ w) (before_fields (before * 2 ^ w + v) ws vs f.1)
    ∙ high before w f.0

-- fields that fit have no more bits than their widths
pub packed_lt : (ws vs : List ℕ) → Fit ws vs → packed ws vs < 2 ^ total ws
packed_lt ws vs f =
    let x = packed ws vs in
    let t = 2 ^ total ws in
    let none : x / t * t ≡ 0 = ap (λ (n : ℕ). n * t) (before_fields 0 ws vs f) ∙ zero-mul t in
    omega (arith, div-add-mod' x t, mod-lt x (pow_pos (total ws)))

-- FIELDS WRITTEN ARE READ
pub fields_behind : (before : ℕ) (ws vs : List ℕ) → Fit ws vs → fields ws (behind before ws vs) ≡ vs
fields_behind before [] [] f = refl
fields_behind before [] (v ∷ vs) f = absurd f
fields_behind before (w ∷ ws) [] f = absurd f
fields_behind before (w ∷ ws) (v ∷ vs) f =
    let next = before * 2 ^ w + v in
    let here : behind next ws vs / 2 ^ total ws % 2 ^ w ≡ v = ap (λ (n : ℕ). n % 2 ^ w) (before_fields next ws vs f.1) ∙ low before w f.0 in
    λ i. here i ∷ fields_behind next ws vs f.1 i

-- FIELDS READ ARE WRITTEN AGAIN
pub behind_fields : (before : ℕ) (ws : List ℕ) (x : ℕ) → behind before ws (fields ws x) ≡ before * 2 ^ total ws + x % 2 ^ total ws
behind_fields before [] x = omega (arith, mod-one x)
behind_fields before (w ∷ ws) x =
    let a = 2 ^ w in
    let b = 2 ^ total ws in
    behind_fields (before * a + x / b % a) ws x
    ∙ ap (λ (n : ℕ). n + x % b) (add-mul (before * a) (x / b % a) b ∙ ap (λ (n : ℕ). n + x / b % a * b) (mul_assoc before a b))
    ∙ add_assoc (before * (a * b)) (x / b % a * b) (x % b)
    ∙ (λ i. before * sym (pow-add 2 w (total ws)) i + sym (mod-pow-add x w (total ws)) i)

pub fields_fit : (ws : List ℕ) (x : ℕ) → Fit ws (fields ws x)
fields_fit [] x = tt
fields_fit (w ∷ ws) x = (mod-lt (x / 2 ^ total ws) (pow_pos w), fields_fit ws x)

pub length_fields : (ws : List ℕ) (x : ℕ) → length (fields ws x) ≡ length ws
length_fields [] x = refl
length_fields (w ∷ ws) x = ap suc (length_fields ws x)

-- ---- fields of one width

pub total_each : (w n : ℕ) → total (replicate n w) ≡ w * n
total_each w zero = sym (mul-zero w)
total_each w (suc n) = ap (λ (t : ℕ). w + t) (total_each w n) ∙ add_comm w (w * n) ∙ sym (mul-suc w n)

pub length_bytes : (n h : ℕ) → length (bytes_of n h) ≡ n
length_bytes n h = length_fields (replicate n 8) h ∙ length-replicate n 8

-- THE BYTES OF A HEADER GIVE IT BACK
pub bytes_number : (n h : ℕ) → h < 2 ^ (8 * n) → header_from (bytes_of n h) ≡ h
bytes_number n h l =
    ap (λ (k : ℕ). packed (replicate k 8) (bytes_of n h)) (length_bytes n h)
    ∙ behind_fields 0 (replicate n 8) h
    ∙ ap (λ (k : ℕ). 0 * 2 ^ k + h % 2 ^ k) (total_each 8 n)
    ∙ omega (arith, mod-eq_of_lt l)

bytes_fit : (bytes : List ℕ) → are_bytes bytes ≡ true → Fit (replicate (length bytes) 8) bytes
bytes_fit [] e = tt
bytes_fit (b ∷ bytes) e = let t = (and-eq-true_iff (ltb b 256) (are_bytes bytes)).0 e in (ltb-true b 256 t.0, bytes_fit bytes t.1)

-- AND A HEADER GIVES ITS BYTES BACK
pub number_bytes : (bytes : List ℕ) → are_bytes bytes ≡ true → bytes_of (length bytes) (header_from bytes) ≡ bytes
number_bytes bytes e = fields_behind 0 (replicate (length bytes) 8) bytes (bytes_fit bytes e)

pub number_lt : (bytes : List ℕ) → are_bytes bytes ≡ true → header_from bytes < 2 ^ (8 * length bytes)
number_lt bytes e =
    subst (λ (k : ℕ). header_from bytes < 2 ^ k) (total_each 8 (length bytes)) (packed_lt (replicate (length bytes) 8) bytes (bytes_fit bytes e))
