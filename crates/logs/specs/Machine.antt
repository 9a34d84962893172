-- What the private functions of src/slot.rt owe their callers. No public promise cites this file. Assumes nothing.
use Rattle.std.specs.Prelude.{ℕ, ◌+◌, ◌^◌, ◌<◌, ◌≤◌, ◌≡◌, true, false, List, ◌∷◌, ◌++◌, take, eqb}
use Rattle.logs.specs.declared.Counts.{Counts}
use Rattle.logs.specs.Decimal.{decimal}
use Rattle.text.specs.Ascii.{line_feed}
use Rattle.logs.specs.Log.{greatest_slot, slot_line, is_outcome}

-- so many digits, six at most, are n in decimal, or there are none; a number of so many digits is below that power of ten
pub record Numeral (text : List ℕ) (digits n : ℕ) : Type 0 where
  pub few : n < 10 ^ digits
  pub positive : 0 < digits → 1 ≤ n
  pub spelt : 0 < digits → take digits text ≡ decimal n
  pub short : digits ≤ 6

-- the piece begins with the line of the slot after these counts, and this rest follows it
pub record NextSlot (counts : Counts) (piece : List ℕ) (outcome : ℕ) (rest : List ℕ) : Type 0 where
  pub tuned : eqb counts.channel 0 ≡ false
  pub few : counts.slots < greatest_slot
  pub outcome_is : is_outcome outcome ≡ true
  pub line : piece ≡ slot_line (counts.slots + 1) outcome ++ (line_feed ∷ rest)
