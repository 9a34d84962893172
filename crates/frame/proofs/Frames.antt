-- A frame's bits, its rows and its bytes: each determines the others. Assumes nothing.
use mathlib.Core.Path.{◌≡◌, sym, ap, ◌∙◌}
use mathlib.Core.Bool.{true, false}
use mathlib.Core.List.{List}
use Prim.Native.Nat.{ℕ, ◌+◌, ◌*◌, ◌/◌, ◌%◌, ◌<◌}
use native.Mathlib.Nat.{zero-add}
use native.Mathlib.Omega.{arith}
use lib.ListN.{length, get_or, take, drop}
use lib.Pow.{are_bytes}
use lib.Seq.{ext_get_or, get_or-take, get_or-drop}
use Rattle.answers.proofs.Bytes.{byte_at}
use Rattle.gf2.specs.Poly.{row_from}
use Rattle.gf2.proofs.Lists.{length_row_from, get_or_row_from, row_cong}
use Rattle.words.specs.Bytes.{bit_of, bit_in, bits_of, row_of}
use Rattle.words.proofs.Bytes.{bits_once}
use Rattle.frame.specs.Frames.{Frame, frame_of, turned_round, row_in}

-- a frame's bit in its byte
pub frame_bit : (bytes : List ℕ) (n p : ℕ) → p < 272 → frame_of bytes n p ≡ bit_of (get_or bytes (34 * n + p / 8) 0) (p % 8)
frame_bit bytes n p h =
    ap (λ (x : ℕ). bit_of x (p % 8)) (get_or-take 34 (drop (34 * n) bytes) (p / 8) 0 (omega arith) ∙ get_or-drop (34 * n) bytes (p / 8) 0)

pub length_row_in : (frame : Frame) (n : ℕ) → length (row_in frame n) ≡ 272
unfolding row_in
length_row_in frame n = length_row_from (frame n) 0 272

bit_row_in : (frame : Frame) (n p : ℕ) → p < 272 → get_or (row_in frame n) p false ≡ frame n p
unfolding row_in
bit_row_in frame n p h = get_or_row_from (frame n) 272 p h

-- two rows of the same bits, and back
pub rows_same : (f g : Frame) (n m : ℕ) → ((p : ℕ) → p < 272 → f n p ≡ g m p) → row_in f n ≡ row_in g m
unfolding row_in
rows_same f g n m h = row_cong (f n) (g m) 0 0 272 (λ p l. ap (f n) (zero-add p) ∙ h p l ∙ ap (g m) (sym (zero-add p)))

bits_same : (f g : Frame) (n : ℕ) → row_in f n ≡ row_in g n → (p : ℕ) → p < 272 → f n p ≡ g n p
bits_same f g n e p h = sym (bit_row_in f n p h) ∙ ap (λ row. get_or row p false) e ∙ bit_row_in g n p h

-- ROWS DETERMINE COLUMNS, and columns rows: the frames are the same
abbrev pub SameRows : Frame → Frame → Type 0
SameRows f g = (n : ℕ) → n < 272 → row_in f n ≡ row_in g n

pub turned_same : (f g : Frame) → SameRows f g → SameRows (turned_round f) (turned_round g)
turned_same f g h n l = rows_same (turned_round f) (turned_round g) n n (λ p k. bits_same f g p (h p k) n l)

-- and so are their bytes
pub frame_once : (x y : List ℕ) → are_bytes x ≡ true → are_bytes y ≡ true → length x ≡ 9248 → length y ≡ 9248 → SameRows (frame_of x) (frame_of y) → x ≡ y
frame_once x y bx by lx ly same =
    ext_get_or 0 x y (lx ∙ sym ly) (λ k h. bits_once 8 (get_or x k 0) (get_or y k 0) (byte_at x bx k) (byte_at y by k)
    (λ i l. sym (at x k i l) ∙ bits_same (frame_of x) (frame_of y) (k / 34) (same (k / 34) (omega arith)) (8 * (k % 34) + i) (omega arith) ∙ at y k i l))
  where
    at : (z : List ℕ) (k i : ℕ) → i < 8 → frame_of z (k / 34) (8 * (k % 34) + i) ≡ bit_of (get_or z k 0) i
    at z k i l =
        let byte : 34 * (k / 34) + (8 * (k % 34) + i) / 8 ≡ k = omega arith in
        let weight : (8 * (k % 34) + i) % 8 ≡ i = omega arith in
        frame_bit z (k / 34) (8 * (k % 34) + i) (omega arith) ∙ (λ t. bit_of (get_or z (byte t) 0) (weight t))

-- a row as a block's
pub row_bytes : (bytes : List ℕ) (n : ℕ) → length (take 34 (drop (34 * n) bytes)) ≡ 34 → row_in (frame_of bytes) n ≡ row_of (take 34 (drop (34 * n) bytes))
unfolding row_in bits_of
row_bytes bytes n l = let row = take 34 (drop (34 * n) bytes) in sym (ap (λ (k : ℕ). row_from (bit_in 8 row) 0 (8 * k)) l)
