-- How the text of a cell is read, from its bytes alone, when it shows a number, and where it stands in a row. Assumes nothing.
use Rattle.std.specs.Prelude.{ℕ, zero, suc, ◌^◌, ◌≡◌, Bool, true, false, not, ◌&&◌, ◌||◌, List, [], ◌∷◌, ◌++◌, eqb, ltb, length, get_or, take, drop, Float}
use Rattle.std.specs.Float.{binary64}
use Rattle.std.specs.Float.Ieee.{round}
use Rattle.std.specs.Float.Ieee.Exact.{HasValue}
use Rattle.text.specs.Find.{index_of}
use Rattle.text.specs.Ascii.{byte, tab, line_feed}
use Rattle.text.specs.Numbers.{is_decimal}
use Rattle.logs.specs.Decimal.{number_from}
use Rattle.logs.specs.Log.{last}
use Rattle.summary.specs.declared.Summary.{Summary}
use Rattle.summary.specs.Report.{ended}
use Rattle.summary.specs.Export.{cell}

-- what stands before the point, or all where there is none
unfoldable pub whole_in : List ℕ → List ℕ
whole_in text = take (index_of (byte ".") text) text

-- what stands after it
unfoldable pub decimals_in : List ℕ → List ℕ
decimals_in text = drop (suc (index_of (byte ".") text)) text

-- A text denotes `digits_in` / 10 ^ `places_in`: the number that all its digits spell, and how many of them stand after the point
unfoldable pub digits_in : List ℕ → ℕ
digits_in text = number_from 0 (whole_in text ++ decimals_in text)

unfoldable pub places_in : List ℕ → ℕ
places_in text = length (decimals_in text)

-- `0` to `9`, and nothing else
unfoldable pub is_digits : List ℕ → Bool
is_digits [] = true
is_digits (b ∷ digits) = is_decimal b && is_digits digits

-- one digit, or several of which the first is not `0`
unfoldable pub is_whole : List ℕ → Bool
is_whole digits = is_digits digits && (eqb (length digits) 1 || ltb (byte "0") (get_or digits 0 0))

-- one digit or more, of which the last is not `0`
unfoldable pub is_fraction : List ℕ → Bool
is_fraction digits = is_digits digits && ltb (byte "0") (last digits)

-- a whole number alone, or one with a point and decimals after it; no sign and no exponent
unfoldable pub is_decimal_text : List ℕ → Bool
is_decimal_text text = is_whole text || (is_whole (whole_in text) && is_fraction (decimals_in text))

-- A text shows a number: it is a decimal text, it denotes the number exactly, and a reader that rounds what it denotes to the nearest
-- binary64 has the number again, bit for bit.
pub record Shows (x : Float) (text : List ℕ) : Type 0 where
  pub form : is_decimal_text text ≡ true
  pub exact : HasValue x false (digits_in text) (10 ^ places_in text)
  pub back : round binary64 false (digits_in text) (10 ^ places_in text) ≡ x

-- a cell shows a number that exists, and is empty for one that does not
pub record IsCell (exists : Bool) (x : Float) (text : List ℕ) : Type 0 where
  pub shown : exists ≡ true → Shows x text
  pub empty : exists ≡ false → text ≡ []

-- the two cells of a row
pub record Cells (summary : Summary) : Type 0 where
  pub mean : IsCell summary.mean_exists summary.mean (cell summary.mean_exists summary.mean)
  pub missing : IsCell summary.missing_exists summary.missing (cell summary.missing_exists summary.missing)

-- neither a tab nor a line feed
unfoldable pub is_field : List ℕ → Bool
is_field [] = true
is_field (b ∷ text) = not (eqb b tab) && not (eqb b line_feed) && is_field text

-- the rest of a row after so many fields, each with a tab behind it
abbrev pub AfterFields : ℕ → List ℕ → List ℕ → Type 0
AfterFields zero row rest = row ≡ rest
AfterFields (suc n) row rest = (field : List ℕ) × (more : List ℕ) × (is_field field ≡ true) × (row ≡ ended field tab ++ more) × AfterFields n more rest

-- the two cells are the last two of a row's eleven fields, and a line feed ends it
pub record InRow (summary : Summary) (row : List ℕ) : Type 0 where
  pub text : AfterFields 9 row (ended (cell summary.mean_exists summary.mean) tab ++ ended (cell summary.missing_exists summary.missing) line_feed)
  pub mean : is_field (cell summary.mean_exists summary.mean) ≡ true
  pub missing : is_field (cell summary.missing_exists summary.missing) ≡ true
