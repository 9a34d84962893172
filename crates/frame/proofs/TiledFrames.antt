-- A tile's bytes in a frame, and one turn of each loop over tiles. Assumes nothing.
use mathlib.Core.Path.{◌≡◌, sym, ap, ◌∙◌, subst}
use mathlib.Core.List.{List}
use Prim.Native.Nat.{ℕ, ◌+◌, ◌*◌, ◌/◌, ◌%◌, ◌^◌, ◌<◌}
use native.Mathlib.Decide.{dec_lt}
use native.Mathlib.Omega.{arith}
use lib.ListN.{get_or}
use Rattle.words.specs.Bytes.{bit_of}
use Rattle.words.proofs.Shifts.{bit_of_mod, bit_of_shr}
use Rattle.frame.specs.Frames.{frame_of, turned_round, Stage}
use Rattle.frame.specs.Tiles.{TileOf, PutsTile, TurnedRound}
use Rattle.frame.proofs.Frames.{frame_bit, rows_same}
use Rattle.frame.proofs.Stages.{stage_same}

-- where a frame has the byte of a tile's row j
abbrev pub tile_byte : (down along j : ℕ) → ℕ
tile_byte down along j = 34 * (8 * down + j) + along

tile_bit : (frame : List ℕ) (down along j i : ℕ) → along < 34 → i < 8 → frame_of frame (8 * down + j) (8 * along + i) ≡ bit_of (get_or frame (tile_byte down along j) 0) i
tile_bit frame down along j i h l =
    let byte : 34 * (8 * down + j) + (8 * along + i) / 8 ≡ tile_byte down along j = omega arith in
    let weight : (8 * along + i) % 8 ≡ i = omega arith in
    frame_bit frame (8 * down + j) (8 * along + i) (omega arith) ∙ (λ t. bit_of (get_or frame (byte t) 0) (weight t))

-- A TILE IS TAKEN: the bits of its eight bytes
pub taken : (frame : List ℕ) (down along tile : ℕ) → along < 34 → ((k : ℕ) → k < 64 → bit_of tile k ≡ bit_of (get_or frame (tile_byte down along (k / 8)) 0) (k % 8))
    → TileOf frame down along tile
taken frame down along tile h all j i g l =
    let row : (8 * j + i) / 8 ≡ j = omega arith in
    let weight : (8 * j + i) % 8 ≡ i = omega arith in
    all (8 * j + i) (omega arith) ∙ (λ t. bit_of (get_or frame (tile_byte down along (row t)) 0) (weight t)) ∙ sym (tile_bit frame down along j i h l)

-- A TILE IS PUT: the bytes of its rows below j are there, and no byte but its eight has changed
pub record Putting (down along tile : ℕ) (before after : List ℕ) (j : ℕ) : Type 0 where
  pub done : (m : ℕ) → m < j → get_or after (tile_byte down along m) 0 ≡ tile / 2 ^ (8 * m) % 2 ^ 8
  pub rest : (q : ℕ) → ((m : ℕ) → m < 8 → q ≡ tile_byte down along m → ⊥) → get_or after q 0 ≡ get_or before q 0

module _ (down along tile : ℕ) (before after : List ℕ) where
  pub putting_done : along < 34 → Putting down along tile before after 8 → PutsTile down along tile before after
  putting_done h p = record {
    put = λ j i g l. sym (tile_bit after down along j i h l ∙ ap (λ (x : ℕ). bit_of x i) (p.done j g) ∙ bit_of_mod (tile / 2 ^ (8 * j)) 8 i l ∙ bit_of_shr tile (8 * j) i);
    others = λ n q g l other. frame_bit after n q l ∙ ap (λ (x : ℕ). bit_of x (q % 8)) (p.rest (34 * n + q / 8) (λ m k s. other (omega arith) (omega arith)))
        ∙ sym (frame_bit before n q l);
  }

-- A FRAME IS TURNED ROUND tile by tile: so many are there
abbrev pub Turning : (frame turned : List ℕ) → ℕ → Type 0
Turning frame turned t = (n p : ℕ) → n < 272 → p < 272 → 34 * (n / 8) + p / 8 < t → frame_of turned n p ≡ frame_of frame p n

pub turning_turn : (frame before after : List ℕ) (t raw tile : ℕ) → Turning frame before t → TileOf frame (t % 34) (t / 34) raw
    → ((j i : ℕ) → j < 8 → i < 8 → bit_of tile (8 * j + i) ≡ bit_of raw (8 * i + j)) → PutsTile (t / 34) (t % 34) tile before after → Turning frame after (t + 1)
turning_turn frame before after t raw tile old from crossed puts n p g l h =
    elim (dec_lt (34 * (n / 8) + p / 8) t) [
      | yes k ↦ puts.others n p g l (λ a b. omega arith) ∙ old n p g l k
      | no k ↦
          let down : 8 * (t / 34) + n % 8 ≡ n = omega arith in
          let along : 8 * (t % 34) + p % 8 ≡ p = omega arith in
          (λ i. frame_of after (sym down i) (sym along i))
          ∙ sym (puts.put (n % 8) (p % 8) (omega arith) (omega arith)) ∙ crossed (n % 8) (p % 8) (omega arith) (omega arith) ∙ from (p % 8) (n % 8) (omega arith) (omega arith)
          ∙ (λ i. frame_of frame (along i) (down i))
    ]

-- THE COLUMNS ARE THE ROWS OF THE FRAME TURNED ROUND: a stage on those, turned back, is a stage on the columns
pub turned_stage : {frame turned corrected back : List ℕ} {i : ℕ} → TurnedRound frame turned → TurnedRound corrected back → Stage (frame_of turned) (frame_of corrected) 272 i
    → Stage (turned_round (frame_of frame)) (turned_round (frame_of back)) 272 i
turned_stage {frame} {turned} {corrected} {back} over again =
    stage_same (λ n l. rows_same (frame_of turned) (turned_round (frame_of frame)) n n (λ p g. over.at n p l g))
    (λ n l. rows_same (frame_of corrected) (turned_round (frame_of back)) n n (λ p g. sym (again.at p n g l)))

-- where none has changed, the frame is as it was
pub unchanged_stage : {frame turned corrected : List ℕ} {i : ℕ} → TurnedRound frame turned → turned ≡ corrected → Stage (frame_of turned) (frame_of corrected) 272 i
    → Stage (turned_round (frame_of frame)) (turned_round (frame_of frame)) 272 i
unchanged_stage {frame} {turned} {corrected} {i} over same stage =
    turned_stage over (record { at = λ n p g l. sym (over.at p n l g) }) (subst (λ bytes. Stage (frame_of turned) (frame_of bytes) 272 i) (sym same) stage)
