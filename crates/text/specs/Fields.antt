-- docs/PROBE.md: a line is a command and its arguments, parted by tabs; and bytes that are the same, as the log and the group state compare them too.
-- Assumes nothing.
use Rattle.std.specs.Prelude.{ℕ, zero, suc, Bool, List, take, drop, eqb, count_by}
use Rattle.std.specs.Cmp.Lexicographic.{pointwise}
use Rattle.text.specs.Find.{index_of}
use Rattle.text.specs.Ascii.{tab}

-- the same bytes in the same order
abbrev pub same_as : List ℕ → List ℕ → Bool
same_as = pointwise eqb

-- the tabs of a line
abbrev pub tabs : List ℕ → ℕ
tabs line = count_by (λ b. eqb b tab) line

-- a field is what stands before the first tab, or all where there is none, once as many fields as its index are taken off with the tab behind each
abbrev pub field_of : ℕ → List ℕ → List ℕ
field_of zero line = take (index_of tab line) line
field_of (suc index) line = field_of index (drop (suc (index_of tab line)) line)
