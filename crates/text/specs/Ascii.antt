-- Texts as they are read: `ascii "khz"` is the bytes of `khz`, and `byte "-"` that of `-`. Assumes nothing.
use Rattle.std.specs.Prelude.{ℕ, List, [], ◌∷◌}
use Prim.Native.Char.{Char, code}
use Prim.Native.String.{String, [] as none, ◌∷◌ as ◌then◌}

abbrev pub byte : Char → ℕ
byte character = code character

abbrev pub ascii : String → List ℕ
ascii none = []
ascii (character then text) = byte character ∷ ascii text

-- what parts the fields of a line, and what ends it
abbrev pub tab : ℕ
tab = byte "\t"

abbrev pub line_feed : ℕ
line_feed = byte "\n"
