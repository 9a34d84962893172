-- NO TWO OUTCOMES MEET A PROMISE of this crate's public functions. Assumes nothing.
use Prim.Native.Nat.{ℕ, ◌/◌, ◌%◌, ◌≤◌}
use mathlib.Core.Path.{◌≡◌, sym, ap, ◌∙◌}
use mathlib.Core.Bool.{Bool}
use mathlib.Core.List.{List}
use lib.ListN.{length}
use Rattle.std.specs.Prelude.{Option}
use Rattle.text.specs.Find.{index_of}
use Rattle.text.specs.Fields.{same_as, tabs, field_of}
use Rattle.text.specs.Hexadecimal.{read_bytes_of, room_after, count_of, hex_digit}
use Rattle.text.specs.Numbers.{read_number_of}

-- `same`
pub same_once : (a b : List ℕ) (r s : Bool) → r ≡ same_as a b → s ≡ same_as a b → r ≡ s
same_once a b r s p q = p ∙ sym q

-- `find`
pub find_once : (bytes : List ℕ) (byte r s : ℕ) → r ≡ index_of byte bytes → r ≤ length bytes → s ≡ index_of byte bytes → s ≤ length bytes → r ≡ s
find_once bytes byte r s p within q inside = p ∙ sym q

-- `arguments`
pub arguments_once : (line : List ℕ) (r s : ℕ) → r ≡ tabs line → s ≡ tabs line → r ≡ s
arguments_once line r s p q = p ∙ sym q

-- `field`: the bytes of the slice that it returns
pub field_once : (line : List ℕ) (index : ℕ) (r s : List ℕ) → r ≡ field_of index line → s ≡ field_of index line → r ≡ s
field_once line index r s p q = p ∙ sym q

-- `read_bytes`: what it returns, and the output
pub read_bytes_once : (digits output : List ℕ) (r s : Option ℕ) (x y : List ℕ) → r ≡ read_bytes_of digits (length output) → x ≡ room_after r digits output
    → count_of r ≤ length x → s ≡ read_bytes_of digits (length output) → y ≡ room_after s digits output → count_of s ≤ length y → (r ≡ s) × (x ≡ y)
read_bytes_once digits output r s x y p left few q right fewer =
    let e = p ∙ sym q in
    (e, left ∙ ap (λ (b : Option ℕ). room_after b digits output) e ∙ sym right)

-- `first_digit`
pub first_digit_once : (byte r s : ℕ) → r ≡ hex_digit (byte / 16) → s ≡ hex_digit (byte / 16) → r ≡ s
first_digit_once byte r s p q = p ∙ sym q

-- `second_digit`
pub second_digit_once : (byte r s : ℕ) → r ≡ hex_digit (byte % 16) → s ≡ hex_digit (byte % 16) → r ≡ s
second_digit_once byte r s p q = p ∙ sym q

-- `read_number`
pub read_number_once : (digits : List ℕ) (most : ℕ) (r s : Option ℕ) → r ≡ read_number_of most digits → s ≡ read_number_of most digits → r ≡ s
read_number_once digits most r s p q = p ∙ sym q
