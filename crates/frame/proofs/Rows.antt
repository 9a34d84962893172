-- A row of a frame is put back corrected: one turn of the stage. Assumes nothing.
use mathlib.Core.Path.{◌≡◌, refl, sym, ap, ◌∙◌}
use mathlib.Core.List.{List, ◌++◌}
use Prim.Native.Nat.{ℕ, suc, ◌+◌, ◌-◌, ◌*◌, ◌/◌, ◌%◌, ◌<◌, ◌≤◌}
use native.Mathlib.Decide.{dec_lt}
use native.Mathlib.Omega.{arith}
use borrow.Rule.Slice.PartMut.{mid_of, put_mid, take_put, drop_put, post_of}
use lib.ListN.{length, get_or, take, drop, length-drop}
use lib.Seq.{get_or-take, get_or-drop, take_at, drop_at, length-take-le}
use Rattle.words.specs.Bytes.{bit_of, row_of}
use Rattle.frame.specs.Frames.{frame_of, row_in, Becomes, Stage, next}
use Rattle.frame.proofs.Frames.{frame_bit, row_bytes, rows_same}
use Rattle.frame.proofs.Stages.{becomes_same, stage_same}

-- a row of 34 bytes in the place of row n, which ends at e
module _ (frame row : List ℕ) (n e : ℕ) (long : length frame ≡ 9248) (h : n < 272) (l : length row ≡ 34) (here : e ≡ 34 * n + 34) where
  abbrev put_back : List ℕ
  put_back = put_mid (34 * n) (e - 34 * n) frame row

  row_put : take 34 (drop (34 * n) put_back) ≡ row
  row_put =
      ap (take 34) (drop_at (take (34 * n) frame) (row ++ post_of (34 * n) (e - 34 * n) frame) (34 * n) (length-take-le (34 * n) frame (omega arith)))
      ∙ take_at row (post_of (34 * n) (e - 34 * n) frame) 34 l

  before : (q : ℕ) → q < 34 * n → get_or put_back q 0 ≡ get_or frame q 0
  before q g =
      sym (get_or-take (34 * n) put_back q 0 g) ∙ ap (λ (xs : List ℕ). get_or xs q 0) (take_put (34 * n) (e - 34 * n) frame row (omega arith)) ∙ get_or-take (34 * n) frame q 0 g

  behind : (q : ℕ) → e ≤ q → get_or put_back q 0 ≡ get_or frame q 0
  behind q g =
      let up : e + (q - e) ≡ q = omega arith in
      ap (λ (k : ℕ). get_or put_back k 0) (sym up) ∙ sym (get_or-drop e put_back (q - e) 0)
      ∙ ap (λ (xs : List ℕ). get_or xs (q - e) 0) (drop_put (34 * n) e frame row (omega arith) (omega arith) (omega arith))
      ∙ get_or-drop e frame (q - e) 0 ∙ ap (λ (k : ℕ). get_or frame k 0) up

  -- every other row is as it was
  row_other : (m : ℕ) → (m ≡ n → ⊥) → row_in (frame_of put_back) m ≡ row_in (frame_of frame) m
  row_other m other =
      rows_same (frame_of put_back) (frame_of frame) m m (λ p g. frame_bit put_back m p g ∙ ap (λ (x : ℕ). bit_of x (p % 8)) (same (34 * m + p / 8) (byte p g)) ∙ sym (frame_bit frame m p g))
    where
      same : (q : ℕ) → (q < e → 34 * n ≤ q → ⊥) → get_or put_back q 0 ≡ get_or frame q 0
      same q out = elim (dec_lt q (34 * n)) [ yes g ↦ before q g | no g ↦ behind q (elim (dec_lt q e) [ yes k ↦ absurd (out k (omega arith)) | no k ↦ omega arith ]) ]

      byte : (p : ℕ) → p < 272 → 34 * m + p / 8 < e → 34 * n ≤ 34 * m + p / 8 → ⊥
      byte p g a b = other (omega arith)

  -- ONE TURN OF THE STAGE
  pub stage_turn : (first : List ℕ) (refusals more : ℕ) → ((m : ℕ) → n ≤ m → row_in (frame_of frame) m ≡ row_in (frame_of first) m)
      → Stage (frame_of first) (frame_of frame) n refusals → Becomes (row_of (mid_of (34 * n) (e - 34 * n) frame)) (row_of row) more
      → Stage (frame_of first) (frame_of put_back) (n + 1) (refusals + more)
  stage_turn first refusals more left stage becomes =
      let one : n + 1 ≡ suc n = omega arith in
      rw one (next (stage_same (λ m g. refl) (λ m g. sym (row_other m (λ q. omega arith))) stage) (becomes_same (sym given) (sym put) becomes))
    where
      whole : length (take 34 (drop (34 * n) frame)) ≡ 34
      whole = length-take-le 34 (drop (34 * n) frame) (omega (arith, length-drop (34 * n) frame))

      given : row_in (frame_of first) n ≡ row_of (mid_of (34 * n) (e - 34 * n) frame)
      given =
          let all : 34 ≡ e - 34 * n = omega arith in
          sym (left n (omega arith)) ∙ row_bytes frame n whole ∙ ap (λ (k : ℕ). row_of (take k (drop (34 * n) frame))) all

      put : row_in (frame_of put_back) n ≡ row_of row
      put = row_bytes put_back n (ap length row_put ∙ l) ∙ ap row_of row_put

  pub left_turn : (first : List ℕ) → ((m : ℕ) → n ≤ m → row_in (frame_of frame) m ≡ row_in (frame_of first) m) → (m : ℕ) → n + 1 ≤ m → row_in (frame_of put_back) m ≡ row_in (frame_of first) m
  left_turn first left m g = row_other m (λ q. omega arith) ∙ left m (omega arith)
