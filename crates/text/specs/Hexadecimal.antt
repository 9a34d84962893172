-- docs/PROBE.md: bytes are written in hexadecimal, two lower-case digits each, and `.` where there are none; upper-case
-- digits are read too. Assumes nothing.
use Rattle.std.specs.Prelude.{ℕ, ◌+◌, ◌-◌, ◌*◌, ◌/◌, ◌%◌, Bool, cond, not, ◌&&◌, List, [], ◌∷◌, ◌++◌, length, get_or, drop, eqb, leb, ltb, Option, Some, None, is_some}
use Rattle.std.specs.List.{list_all}
use Rattle.std.specs.Option.{unwrap_or}
use Rattle.text.specs.Ascii.{byte}
use Rattle.text.specs.Numbers.{is_decimal}

-- the value of a digit, and none for any other byte
abbrev pub digit_of : ℕ → Option ℕ
digit_of b =
    cond (is_decimal b) (Some (b - byte "0"))
    (cond (leb (byte "a") b && leb b (byte "f")) (Some (b - byte "a" + 10))
    (cond (leb (byte "A") b && leb b (byte "F")) (Some (b - byte "A" + 10)) None))

-- every byte is a digit
abbrev pub hexadecimal : List ℕ → Bool
hexadecimal digits = list_all (λ b. is_some (digit_of b)) digits

-- the bytes, two digits each
abbrev pub decoded : List ℕ → List ℕ
decoded [] = []
decoded (a ∷ []) = []
decoded (a ∷ b ∷ digits) = (unwrap_or (digit_of a) 0 * 16 + unwrap_or (digit_of b) 0) ∷ decoded digits

-- a field that is `.`, or an even number of digits, not none, whose bytes there is room for
abbrev pub read_bytes_of : List ℕ → ℕ → Option ℕ
read_bytes_of digits room =
    cond (eqb (length digits) 1) (cond (eqb (get_or digits 0 0) (byte ".")) (Some 0) None)
    (cond (eqb (length digits) 0) None
    (cond (not (eqb (length digits % 2) 0)) None
    (cond (ltb room (length digits / 2)) None
    (cond (hexadecimal digits) (Some (length digits / 2)) None))))

-- the output: the bytes that were read, and then as before
abbrev pub room_after : Option ℕ → List ℕ → List ℕ → List ℕ
room_after (Some count) digits output = decoded digits ++ drop count output
room_after None digits output = output

abbrev pub count_of : Option ℕ → ℕ
count_of (Some count) = count
count_of None = 0

-- the digit of a number below 16
abbrev pub hex_digit : ℕ → ℕ
hex_digit number = cond (ltb number 10) (byte "0" + number) (byte "a" + number - 10)
