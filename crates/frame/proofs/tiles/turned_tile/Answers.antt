-- `frame::tiles::turned_tile`: three exchanges. Assumes nothing.
use mathlib.Core.Path.{◌≡◌, ap, ◌∙◌}
use Prim.Native.Nat.{ℕ, ◌+◌, ◌*◌}
use Rattle.words.specs.Bytes.{bit_of}
use Rattle.frame.specs.Tiles.{exchanged}
use Rattle.frame.proofs.Exchanges.{of_two, of_four, of_eight, tile_crossed}
use Rattle.frame.proofs.tiles.turned_tile.Goals as goal

pub returns : goal.returns
returns c =
    λ j i h l. ap (λ (x : ℕ). bit_of x (8 * j + i)) three ∙ tile_crossed c.args.tile j i h l
  where
    three : c.exchange.result ≡ exchanged 28 of_eight (exchanged 14 of_four (exchanged 7 of_two c.args.tile))
    three =
        c.exchange.ensures
        ∙ ap (exchanged 28 of_eight) (c.exchange-fours.ensures ∙ ap (exchanged 14 of_four) c.exchange-twos.ensures)
