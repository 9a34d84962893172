-- Document 01, "Layer 3 header, 16 bits": SI/LCh 4 bits, equal to A hex; DI 1; LF 1; SC 4; check 6.
-- The twenty data bytes start at the third byte of the information. Assumes nothing.
use Rattle.std.specs.Prelude.{ℕ, Bool, List, [], ◌∷◌, take}
use Rattle.header.specs.Header.{field, flag, header_from}

abbrev pub layer3 : List ℕ
layer3 = 4 ∷ 1 ∷ 1 ∷ 4 ∷ []

-- the header of an information block, and its fields; DI may be either
abbrev pub header_of : List ℕ → ℕ
header_of information = header_from (take 2 information)

abbrev pub si_lch_of : ℕ → ℕ
si_lch_of h = field layer3 0 h

abbrev pub lf_of : ℕ → Bool
lf_of h = flag layer3 2 h

abbrev pub sc_of : ℕ → ℕ
sc_of h = field layer3 3 h
