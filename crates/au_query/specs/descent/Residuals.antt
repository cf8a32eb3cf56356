-- What the code holds of a comparison over the rows of one more table. No promise of the crate rests on these.
use Rattle.std.specs.Prelude.{◌≡◌, IsTrue, ℤ, Bool, true, false, not, List, [], ◌∷◌, ◌++◌, Option, None, Some}
use Rattle.std.specs.List.{list_all, list_any, slice_get}
use Rattle.au_base.specs.declared.cell.Cell.{Cell}
use Rattle.au_base.specs.declared.cell.Cell.TheVariants as cell
use Rattle.sql_ast.specs.declared.expression.Relation.{Relation}
use Rattle.au_expr.specs.declared.placed.Place.{Place}
use Rattle.au_expr.specs.declared.placed.Placed.{Placed}
use Rattle.au_expr.specs.Operators.{added, compare_value, number}
use Rattle.au_expr.specs.Placing.{cell_at, cell_or_null, value_at}
use Rattle.au_expr.specs.Sessions.{Session}
use Rattle.au_expr.specs.Values.{Value, Is, Holds, Overflows, is_met, is_overflow}
use Rattle.au_query.specs.declared.residual.Residual.{Residual}
use Rattle.au_query.specs.declared.residual.Side.{Side}
use Rattle.au_query.specs.declared.residual.Side.TheVariants as side

abbrev pub number_in_cell : Cell → Option ℤ
number_in_cell cell.Null = None
number_in_cell (cell.Num n) = Some n
number_in_cell (cell.Text t) = None
number_in_cell (cell.Moment m) = None

-- its number, where it has one
abbrev pub number_of : Value → Option ℤ
number_of (Is c) = number_in_cell c
number_of (Holds t) = None
number_of Overflows = None

abbrev pub number_or_overflow : Option ℤ → Value
number_or_overflow None = Overflows
number_or_overflow (Some n) = Is (cell.Num n)

-- what a side gives over a row of the next table
abbrev pub side_value : Side → List Cell → Value
side_value (side.Number n) cells = number n
side_value (side.Column column) cells = Is (cell_or_null (slice_get cells column))
side_value (side.Sum before minus column) cells = added minus (number before) (Is (cell_or_null (slice_get cells column)))

-- the comparison, with the number on the left or on the right
abbrev pub sides : Bool → Relation → Value → Value → Value
sides true relation side number = compare_value relation number side
sides false relation side number = compare_value relation side number

-- what the comparison gives over a row of the next table
abbrev pub residual_value : Residual → List Cell → Value
residual_value residual cells = sides residual.number_first residual.relation (side_value residual.side cells) (number residual.number)

-- the comparison is Yes over whatever row of the next table
abbrev pub IsAlwaysMet : Residual → Type 0
IsAlwaysMet residual = (cells : List Cell) → IsTrue (is_met (residual_value residual cells))

-- the cell at a place of the rows before and of the row behind them
abbrev pub cell_behind : List (List Cell) → List Cell → Place → Cell
cell_behind before cells place = cell_at (before ++ cells ∷ []) place

-- the side gives what the expression does, whatever the row behind these is
abbrev pub IsSideOf : List (List Cell) → Placed → Side → Type 0
IsSideOf before tree s = (session : Session) (cells : List Cell) → value_at (before ++ cells ∷ []) session tree ≡ side_value s cells

-- the comparison gives what the condition does, whatever the row behind these is
abbrev pub IsResidual : List (List Cell) → Placed → Residual → Type 0
IsResidual before tree residual = (session : Session) (cells : List Cell) → value_at (before ++ cells ∷ []) session tree ≡ residual_value residual cells

-- where it isn't Yes, one of the conditions isn't
abbrev pub IsSieve : List Placed → List (List Cell) → Residual → Type 0
IsSieve trees before residual = (session : Session) (cells : List Cell) → is_met (residual_value residual cells) ≡ false
    → list_all (λ (tree : Placed). is_met (value_at (before ++ cells ∷ []) session tree)) trees ≡ false

-- it is there, and isn't Yes over these cells
abbrev pub is_left_out : Option Residual → List Cell → Bool
is_left_out None cells = false
is_left_out (Some residual) cells = not (is_met (residual_value residual cells))

-- each comparison is Yes over these cells
abbrev pub are_met_by : List Cell → List Residual → Bool
are_met_by cells residuals = list_all (λ residual. is_met (residual_value residual cells)) residuals

-- over one row the conditions are all Yes exactly where the comparisons are
abbrev pub AreLeft : List Placed → List Residual → Type 0
AreLeft trees residuals = (session : Session) (cells : List Cell)
    → list_all (λ (tree : Placed). is_met (value_at (cells ∷ []) session tree)) trees ≡ are_met_by cells residuals

-- the expression overflows over the rows before and one of these behind them
abbrev pub overflows_behind : Session → List (List Cell) → List (List Cell) → Placed → Bool
overflows_behind session before rows tree = list_any (λ cells. is_overflow (value_at (before ++ cells ∷ []) session tree)) rows
