-- docs/PROBE.md: numbers are decimal without a sign. Assumes nothing.
use Rattle.std.specs.Prelude.{ℕ, ◌+◌, ◌-◌, ◌*◌, Bool, cond, ◌&&◌, List, [], ◌∷◌, length, eqb, leb, Option, Some, None}
use Rattle.text.specs.Ascii.{byte}

abbrev pub is_decimal : ℕ → Bool
is_decimal b = leb (byte "0") b && leb b (byte "9")

-- digits read on from a value; a value over the most is no number
abbrev pub digits_from : ℕ → ℕ → List ℕ → Option ℕ
digits_from most value [] = Some value
digits_from most value (b ∷ digits) =
    cond (is_decimal b)
    (cond (leb (value * 10 + (b - byte "0")) most) (digits_from most (value * 10 + (b - byte "0")) digits) None)
    None

-- one or more digits
abbrev pub read_number_of : ℕ → List ℕ → Option ℕ
read_number_of most digits = cond (eqb (length digits) 0) None (digits_from most 0 digits)
