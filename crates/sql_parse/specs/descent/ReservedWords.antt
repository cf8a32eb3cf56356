-- The reserved words by the byte that they begin with.
use Rattle.std.specs.Prelude.{◌≡◌, ℕ, List, ◌∷◌}
use Rattle.std.specs.Str.{bytes_eq}
use Rattle.std.specs.List.{list_any}
use Rattle.sql_parse.specs.Symbols.{is_reserved}

-- a word that begins with the byte is reserved if it is among the words
unfoldable pub AreReservedFrom : ℕ → List (List ℕ) → Type 0
AreReservedFrom first words = (rest : List ℕ) → list_any (bytes_eq (first ∷ rest)) words ≡ is_reserved (first ∷ rest)
