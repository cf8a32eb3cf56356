-- Combinations of rows of several tables (SQL Language Reference, "Joins").
use Rattle.std.specs.Prelude.{ℕ, ◌*◌, Bool, List, [], ◌∷◌, map, length, filter}
use Rattle.std.specs.List.{AllByRecursion, flat_map, list_all, list_any}
use Rattle.std.specs.Borrow.{Bor}
use Rattle.au_base.specs.declared.cell.Cell.{Cell}
use Rattle.au_base.specs.declared.numbers.RowNo.{RowNo}
use Rattle.au_base.specs.Cells.{IsSoundCell}
use Rattle.au_expr.specs.declared.placed.Placed.{Placed}
use Rattle.au_expr.specs.Placing.{value_at}
use Rattle.au_expr.specs.Sessions.{Session}
use Rattle.au_expr.specs.Values.{cell_in, is_met, is_overflow}
use Rattle.au_query.specs.declared.source.Source.{Source}

-- a row of a table: its number, and its cells
abbrev pub Line : Type 0
Line = RowNo × List Cell

-- a row as it is lent
abbrev pub lent : RowNo × Bor (List Cell) → Line
lent row = (row.0, row.1.now)

abbrev pub lines : List (RowNo × Bor (List Cell)) → List Line
lines rows = map lent rows

-- the rows of a table of FROM
abbrev pub rows_of : Source → List Line
rows_of source = lines source.rows.items

-- the rows of each table of FROM
abbrev pub views : List Source → List (List Line)
views sources = map rows_of sources

-- a row of each table, in lexicographic order of the tables
abbrev pub product : {X : Type 0} → List (List X) → List (List X)
product [] = [] ∷ []
product (view ∷ views) = flat_map (λ x. map (λ row. x ∷ row) (product views)) view

-- how many combinations there are
abbrev pub product_size : {X : Type 0} → List (List X) → ℕ
product_size [] = 1
product_size (view ∷ views) = length view * product_size views

-- the cells of the rows of a combination
abbrev pub cells_of : List Line → List (List Cell)
cells_of combo = map (λ (line : Line). line.1) combo

-- each condition is Yes over the combination
abbrev pub passes : Session → List Placed → List Line → Bool
passes session conditions combo = list_all (λ (tree : Placed). is_met (value_at (cells_of combo) session tree)) conditions

-- the combinations over which each condition is Yes, in order
abbrev pub combos : Session → List Placed → List (List Line) → List (List Line)
combos session conditions views = filter (passes session conditions) (product views)

-- the expression overflows over the combination
abbrev pub overflows_over : Session → Placed → List Line → Bool
overflows_over session tree combo = is_overflow (value_at (cells_of combo) session tree)

-- the expression overflows over some combination
abbrev pub overflows_anywhere : Session → List (List Line) → Placed → Bool
overflows_anywhere session views tree = list_any (overflows_over session tree) (product views)

-- one of the expressions overflows over some combination
abbrev pub overflows : Session → List Placed → List (List Line) → Bool
overflows session trees views = list_any (overflows_anywhere session views) trees

-- what the expressions give over the cells of a combination
abbrev pub cells_over : Session → List Placed → List (List Cell) → List Cell
cells_over session trees rows = map (λ (tree : Placed). cell_in (value_at rows session tree)) trees

abbrev pub cells_at : Session → List Placed → List Line → List Cell
cells_at session trees combo = cells_over session trees (cells_of combo)

abbrev pub IsSoundLine : Line → Type 0
IsSoundLine line = AllByRecursion IsSoundCell line.1

-- each cell of each row is a sound one
abbrev pub AreSoundRows : List (List Line) → Type 0
AreSoundRows views = AllByRecursion (AllByRecursion IsSoundLine) views
