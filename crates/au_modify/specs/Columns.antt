-- The columns of a table by their names.
use Rattle.std.specs.Prelude.{ℕ, Bool, List, find, map, Option}
use Rattle.std.specs.List.{filter_map, list_any}
use Rattle.std.specs.Str.{bytes_eq}
use Rattle.au_base.specs.declared.table.Column.{Column}

-- the column has this name
abbrev pub is_called : List ℕ → Column → Bool
is_called name column = bytes_eq column.name name

-- a column has this name
abbrev pub has_column : List Column → List ℕ → Bool
has_column columns name = list_any (is_called name) columns

-- the column of this name, where there is one
abbrev pub column_called : List Column → List ℕ → Option Column
column_called columns name = find (is_called name) columns

-- the columns of these names, in the order of the names
abbrev pub columns_called : List Column → List (List ℕ) → List Column
columns_called columns names = filter_map (column_called columns) names

-- the names of the columns, in their order
abbrev pub names_of : List Column → List (List ℕ)
names_of columns = map (λ (column : Column). column.name) columns
