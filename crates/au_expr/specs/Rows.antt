-- Rows that belong together, one of each range of a scope, and their columns by name.
use Rattle.std.specs.Prelude.{ℕ, Bool, true, ◌&&◌, List, [], ◌∷◌, map, Option, Some, None, ⊤}
use Rattle.std.specs.List.{AllByRecursion, AllZip, filter, flat_map, zip}
use Rattle.std.specs.Str.{bytes_eq}
use Rattle.au_base.specs.declared.cell.Cell.{Cell}
use Rattle.au_base.specs.declared.cell.Cell.TheVariants as cell
use Rattle.au_base.specs.declared.table.Column.{Column}
use Rattle.au_base.specs.declared.table.ColumnKind.{ColumnKind}
use Rattle.au_base.specs.declared.table.ColumnKind.TheVariants as kind
use Rattle.au_base.specs.Cells.{IsSoundCell}

-- a range's name, that of a table or its alias, and its columns
abbrev pub Range : Type 0
Range = List ℕ × List Column

-- NULL, or of the kind
abbrev pub IsOfKind : ColumnKind → Cell → Type 0
IsOfKind _ cell.Null = ⊤
IsOfKind kind.Number (cell.Num n) = ⊤
IsOfKind kind.Text (cell.Text t) = ⊤
IsOfKind kind.Moment (cell.Moment m) = ⊤
IsOfKind _ _ = ⊥

-- one cell a column, NULL or of the column's kind
abbrev pub FitsColumns : List Column → List Cell → Type 0
FitsColumns columns cells = AllZip (λ (column : Column) (c : Cell). IsOfKind column.kind c) columns cells

-- one row a range, each of which fits its columns
abbrev pub FitsRanges : List Range → List (List Cell) → Type 0
FitsRanges ranges rows = AllZip (λ (range : Range) (row : List Cell). FitsColumns range.1 row) ranges rows

-- each cell is a sound one
abbrev pub AreSound : List (List Cell) → Type 0
AreSound rows = AllByRecursion (AllByRecursion IsSoundCell) rows

-- a cell with the names of its range and of its column
pub record NamedCell : Type 0 where
  pub range : List ℕ
  pub column : List ℕ
  pub content : Cell

abbrev pub named_of : List ℕ → Column × Cell → NamedCell
named_of range pair = record { range = range; column = pair.0.name; content = pair.1 }

abbrev pub named_in : Range × List Cell → List NamedCell
named_in pair = map (named_of pair.0.0) (zip pair.0.1 pair.1)

-- the cells of the rows under the names of the scope
abbrev pub named : List Range → List (List Cell) → List NamedCell
named ranges rows = flat_map named_in (zip ranges rows)

-- a column is meant with the range that is written before it, or with any where none is
abbrev pub is_range : Option (List ℕ) → List ℕ → Bool
is_range None range = true
is_range (Some written) range = bytes_eq range written

abbrev pub is_meant : Option (List ℕ) → List ℕ → NamedCell → Bool
is_meant range column c = is_range range c.range && bytes_eq c.column column

-- the one cell, and NULL where there is none or more than one
abbrev pub only : List Cell → Cell
only [] = cell.Null
only (c ∷ []) = c
only (c ∷ _ ∷ _) = cell.Null

-- the cell of the one column of this name
abbrev pub cell_named : List NamedCell → Option (List ℕ) → List ℕ → Cell
cell_named cells range column = only (map (λ (c : NamedCell). c.content) (filter (is_meant range column) cells))
