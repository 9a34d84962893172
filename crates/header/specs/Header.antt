-- Document 01, "The long message channel": header fields stand in the order written, most significant bit first, from b7 of the first byte. Header
-- checks use x^6 + x^4 + x^3 + 1, start value zero, over all header bits before the check. Assumes nothing.
use Rattle.std.specs.Prelude.{ℕ, ◌+◌, ◌*◌, ◌/◌, ◌%◌, ◌^◌, ◌<◌, Bool, List, [], ◌∷◌, map, eqb, length, get_or, replicate}
use Rattle.gf2.specs.Poly.{bit, lower, check_of}

-- the bits that fields of these widths have
abbrev pub total : List ℕ → ℕ
total [] = 0
total (w ∷ ws) = w + total ws

-- fields of these widths behind a number: it moves up by the width of each field that is put behind it
abbrev pub behind : ℕ → List ℕ → List ℕ → ℕ
behind before [] vs = before
behind before (w ∷ ws) [] = before
behind before (w ∷ ws) (v ∷ vs) = behind (before * 2 ^ w + v) ws vs

-- fields in the order written, as one number
abbrev pub packed : List ℕ → List ℕ → ℕ
packed ws vs = behind 0 ws vs

-- the fields of a number: each stands above the bits of those after it
abbrev pub fields : List ℕ → ℕ → List ℕ
fields [] x = []
fields (w ∷ ws) x = x / 2 ^ total ws % 2 ^ w ∷ fields ws x

-- values that fit their widths
abbrev pub Fit : List ℕ → List ℕ → Type 0
Fit [] [] = Unit
Fit [] (v ∷ vs) = ⊥
Fit (w ∷ ws) [] = ⊥
Fit (w ∷ ws) (v ∷ vs) = (v < 2 ^ w) × Fit ws vs

-- the n bytes of a header, and the header that bytes are; a byte is a field of eight bits
abbrev pub bytes_of : ℕ → ℕ → List ℕ
bytes_of n h = fields (replicate n 8) h

abbrev pub header_from : List ℕ → ℕ
header_from bytes = packed (replicate (length bytes) 8) bytes

-- the last n bits of a number, and the number that a row of bits is; a bit is a field of one bit
unfoldable pub bits : ℕ → ℕ → List Bool
bits n x = map (λ v. eqb v 1) (fields (replicate n 1) x)

abbrev pub number : List Bool → ℕ
number row = packed (replicate (length row) 1) (map bit row)

-- x^6 + x^4 + x^3 + 1
abbrev pub six : List Bool
six = lower 6 (6 ∷ 4 ∷ 3 ∷ 0 ∷ [])

-- the check over the last n bits of x
unfoldable pub check : ℕ → ℕ → ℕ
check n x = number (check_of six (bits n x))

-- a header: its fields, then the check over them
abbrev pub with_check : ℕ → ℕ → ℕ
with_check n x = x * 64 + check n x

abbrev pub header : List ℕ → List ℕ → ℕ
header ws vs = with_check (total ws) (packed ws vs)

-- a header's field, by its place among the widths
abbrev pub field : List ℕ → ℕ → ℕ → ℕ
field widths i h = get_or (fields widths (h / 64)) i 0

-- whether a field of one bit is set, by its place
abbrev pub flag : List ℕ → ℕ → ℕ → Bool
flag widths i h = eqb (field widths i h) 1

-- the check of a header that has n bits before it is right
abbrev pub holds : ℕ → ℕ → Bool
holds n h = eqb (check n (h / 64)) (h % 64)
