-- The columns and the key that a table is created with (SQL Language Reference, "CREATE TABLE" and "constraint"; that a
-- column of the primary key is NOT NULL is said there too).
use Rattle.std.specs.Prelude.{◌||◌, ◌==◌, ℕ, not, nat_le, Bool, true, false, if◌then◌else◌, List, [], ◌∷◌, length, map, filter, unwrap_or}
use Rattle.std.specs.List.{flat_map, list_any, position}
use Rattle.std.specs.Set.{distinct_count}
use Rattle.std.specs.Str.{bytes_eq}
use Rattle.au_base.specs.declared.table.Column.{Column}
use Rattle.sql_ast.specs.declared.table.Element.{Element}
use Rattle.sql_ast.specs.declared.table.Element.TheVariants as element

-- no two of the names are the same: there are as many different ones as there are
abbrev pub are_distinct : List (List ℕ) → Bool
are_distinct names = distinct_count bytes_eq names == length names

-- the name is one of these
abbrev pub is_one_of : List (List ℕ) → List ℕ → Bool
is_one_of names name = list_any (λ other. bytes_eq other name) names

-- the column that the element defines, where it does
abbrev pub column_of : Element → List Column
column_of (element.Column column key) = column ∷ []
column_of (element.PrimaryKey names) = []

-- the columns, in their order
abbrev pub columns_of : List Element → List Column
columns_of elements = flat_map column_of elements

-- the name of the column that the element defines, where it does
abbrev pub name_of : Element → List (List ℕ)
name_of (element.Column column key) = column.name ∷ []
name_of (element.PrimaryKey names) = []

-- the names of the columns
abbrev pub names_of : List Element → List (List ℕ)
names_of elements = flat_map name_of elements

-- the element defines a primary key
abbrev pub is_key : Element → Bool
is_key (element.Column column key) = key
is_key (element.PrimaryKey names) = true

-- the columns that the element puts into the primary key
abbrev pub key_part : Element → List (List ℕ)
key_part (element.Column column key) = if key then column.name ∷ [] else []
key_part (element.PrimaryKey names) = names

-- the columns of the primary key, in its order; there is at most one key where this is asked
abbrev pub key_names : List Element → List (List ℕ)
key_names elements = flat_map key_part elements

-- a list of key columns names one twice
abbrev pub has_key_twice : Element → Bool
has_key_twice (element.Column column key) = false
has_key_twice (element.PrimaryKey names) = not (are_distinct names)

-- two columns have one name, or a key names a column twice
abbrev pub has_column_twice : List Element → Bool
has_column_twice elements = not (are_distinct (names_of elements)) || list_any has_key_twice elements

-- there are two primary keys or more
abbrev pub has_second_key : List Element → Bool
has_second_key elements = nat_le 2 (length (filter is_key elements))

-- some column of a key isn't one of the table
abbrev pub has_unknown_key : List Element → Bool
has_unknown_key elements = list_any (λ name. not (is_one_of (names_of elements) name)) (key_names elements)

-- the column as the table has it: NOT NULL where the key has it
abbrev pub made_column : List (List ℕ) → Column → Column
made_column key column = record { name = column.name; kind = column.kind; size = column.size; not_null = column.not_null || is_one_of key column.name }

-- the columns of the table
abbrev pub made_columns : List Element → List Column
made_columns elements = map (made_column (key_names elements)) (columns_of elements)

-- the place of the column of this name, from 0; it is there where this is asked
abbrev pub place_of : List (List ℕ) → List ℕ → ℕ
place_of names name = unwrap_or (position (λ other. bytes_eq other name) names) 0

-- the places of the key's columns
abbrev pub made_key : List Element → List ℕ
made_key elements = map (place_of (names_of elements)) (key_names elements)
