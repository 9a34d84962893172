-- The table of the code, as a list: its own file, so that an edit of it changes no theorem's text. Assumes nothing.
use Prim.Native.Nat.{ℕ}
use mathlib.Core.List.{List, [], ◌∷◌}

-- the table of the code
abbrev pub summed : List ℕ
summed =
    11572266111415215470 ∷ 15009505092562383543 ∷ 5241853629811235893 ∷ 344408522773965684 ∷ 9395576298241758650 ∷ 4697788149120879325 ∷ []
