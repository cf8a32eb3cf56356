-- Lines of comma-separated values (RFC 4180; that a line ends in LF alone, and that a field has quotes only where it needs
-- them, are this project's profile).
use Rattle.std.specs.Prelude.{ℕ, ◌==◌, ◌||◌, Bool, List, [], ◌∷◌, ◌++◌, if◌then◌else◌, flat_map}
use Rattle.std.specs.List.{list_any}

-- a comma, a quote, CR and LF
abbrev pub calls_for_quotes : ℕ → Bool
calls_for_quotes byte = byte == 44 || byte == 34 || byte == 13 || byte == 10

-- a quote stands twice
abbrev pub doubled : ℕ → List ℕ
doubled byte = if byte == 34 then 34 ∷ byte ∷ [] else byte ∷ []

-- a field as it stands in a line
abbrev pub field_text : List ℕ → List ℕ
field_text field = if list_any calls_for_quotes field then 34 ∷ [] ++ flat_map doubled field ++ 34 ∷ [] else field

-- the fields behind the first, each behind a comma
abbrev pub further_fields : List (List ℕ) → List ℕ
further_fields fields = flat_map (λ field. 44 ∷ field_text field) fields

-- the fields as a line
unfoldable pub line : List (List ℕ) → List ℕ
line [] = 10 ∷ []
line (field ∷ fields) = field_text field ++ further_fields fields ++ 10 ∷ []
