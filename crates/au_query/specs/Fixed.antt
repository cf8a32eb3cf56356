-- Columns that the conditions of a query fix, so that few rows of their table can take part (SQL Language Reference,
-- "Comparison Conditions": an equality is Yes between equal values alone).
use Rattle.std.specs.Prelude.{◌≡◌, IsTrue, ℕ, List, Some, false}
use Rattle.std.specs.List.{AllZip, list_all, slice_get}
use Rattle.au_base.specs.declared.cell.Cell.{Cell}
use Rattle.au_expr.specs.declared.placed.Placed.{Placed}
use Rattle.au_expr.specs.Placing.{value_at}
use Rattle.au_expr.specs.Sessions.{Session}
use Rattle.au_expr.specs.Values.{is_met}
use Rattle.au_query.specs.Combos.{AreSoundRows, Line, overflows}

-- each condition is Yes over the rows
abbrev pub IsMetOver : Session → List Placed → List (List Cell) → Type 0
IsMetOver session conditions rows = IsTrue (list_all (λ (tree : Placed). is_met (value_at rows session tree)) conditions)

-- over rows over which each condition is Yes, that of the range has this cell in the column of this number
abbrev pub IsFixed : Session → List Placed → ℕ → ℕ → Cell → Type 0
IsFixed session conditions range column cell =
    (rows : List (List Cell)) (cells : List Cell) → IsMetOver session conditions rows → slice_get rows range ≡ Some cells → slice_get cells column ≡ Some cell

-- it has these cells in the columns of these numbers
abbrev pub AreFixed : Session → List Placed → ℕ → List ℕ → List Cell → Type 0
AreFixed session conditions range columns cells = AllZip (IsFixed session conditions range) columns cells

-- none of the expressions overflows over any combination of rows of sound cells
abbrev pub NeverOverflows : Session → List Placed → Type 0
NeverOverflows session trees = (views : List (List Line)) → AreSoundRows views → overflows session trees views ≡ false
