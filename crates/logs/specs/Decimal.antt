-- Document 01, "The log and its report": "Decimal without leading zeros". Assumes nothing.
use Rattle.std.specs.Prelude.{ℕ, zero, suc, ◌+◌, ◌-◌, ◌*◌, ◌/◌, ◌%◌, cond, List, [], ◌∷◌, ◌++◌, ltb}
use Rattle.text.specs.Ascii.{byte}

-- the digits of a number that has at most `more` digits besides its last
unfoldable pub decimal_up_to : ℕ → ℕ → List ℕ
decimal_up_to zero n = (byte "0" + n) ∷ []
decimal_up_to (suc more) n = cond (ltb n 10) ((byte "0" + n) ∷ []) (decimal_up_to more (n / 10) ++ ((byte "0" + n % 10) ∷ []))

-- a number of up to twenty digits, as every number of 64 bits is
unfoldable pub decimal : ℕ → List ℕ
decimal n = decimal_up_to 19 n

-- the number that digits spell, read on from that of the digits before them
unfoldable pub number_from : ℕ → List ℕ → ℕ
number_from before [] = before
number_from before (b ∷ digits) = number_from (before * 10 + (b - byte "0")) digits
