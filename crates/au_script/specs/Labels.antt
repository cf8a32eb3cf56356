-- Which number the client with a label has.
use Rattle.std.specs.Prelude.{ℕ, ◌+◌, List, [], ◌∷◌, ◌++◌, if◌then◌else◌}
use Rattle.std.specs.List.{list_any, position_or_len}
use Rattle.std.specs.Str.{bytes_eq}

-- a label, as its bytes
abbrev pub Label : Type 0
Label = List ℕ

-- the labels used, in the order of their first use, once this one is used too
abbrev pub used_with : List Label → Label → List Label
used_with labels label = if list_any (bytes_eq label) labels then labels else labels ++ label ∷ []

-- a label's place among those used, from 1; the next place where it isn't used yet
abbrev pub number_of : List Label → Label → ℕ
number_of labels label = position_or_len (bytes_eq label) labels + 1
