-- What the private functions of src/tiles.rt owe. No public promise cites this file. Assumes nothing.
use Rattle.std.specs.Prelude.{◌≡◌, List, ℕ, ◌+◌, ◌*◌, ◌/◌, ◌%◌, ◌^◌, ◌<◌}
use Rattle.std.specs.Int.Bits.{bit_and, bit_xor}
use Rattle.words.specs.Bytes.{bit_of}
use Rattle.frame.specs.Frames.{frame_of, turned_round}

-- a word with each chosen place exchanged with the one so far on
unfoldable pub exchanged : (far chosen word : ℕ) → ℕ
exchanged far chosen word = let differing = bit_and chosen (bit_xor word (word / 2 ^ far)) in bit_xor word (bit_xor differing (differing * 2 ^ far % 2 ^ 64))

-- a word is the tile of a frame in eight rows from 8 x down on, at eight positions from 8 x along on
abbrev pub TileOf : List ℕ → (down along tile : ℕ) → Type 0
TileOf frame down along tile = (j i : ℕ) → j < 8 → i < 8 → bit_of tile (8 * j + i) ≡ frame_of frame (8 * down + j) (8 * along + i)

-- a tile is put there, and what is in other tiles stays
pub record PutsTile (down along tile : ℕ) (before after : List ℕ) : Type 0 where
  pub put : TileOf after down along tile
  pub others : (n p : ℕ) → n < 272 → p < 272 → (n / 8 ≡ down → p / 8 ≡ along → ⊥) → frame_of after n p ≡ frame_of before n p

-- the whole frame is turned round
pub record TurnedRound (frame turned : List ℕ) : Type 0 where
  pub at : (n p : ℕ) → n < 272 → p < 272 → frame_of turned n p ≡ turned_round (frame_of frame) n p
