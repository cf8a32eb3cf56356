-- The value of an expression whose columns are places, over the rows of its ranges.
use Rattle.std.specs.Prelude.{ℕ, Bool, List, map, Option, Some, None}
use Rattle.std.specs.List.{slice_get}
use Rattle.au_base.specs.declared.cell.Cell.{Cell}
use Rattle.au_base.specs.declared.cell.Cell.TheVariants as cell
use Rattle.au_base.specs.Cells.{text_cell}
use Rattle.au_expr.specs.declared.placed.Place.{Place}
use Rattle.au_expr.specs.declared.placed.Placed.{Placed}
use Rattle.au_expr.specs.declared.placed.Placed.TheOpen as part
use Rattle.au_expr.specs.declared.placed.Placed.TheFolds.{fold-Placed}
use Rattle.au_expr.specs.Operators.{and_value, or_value, not_value, compare_value, null_value, like_value, in_value, between_value, sum_value, product_value, sign_value}
use Rattle.au_expr.specs.Sessions.{Session, user_cell, number_cell, now_cell}
use Rattle.au_expr.specs.Values.{Value, Is}

abbrev pub cell_or_null : Option Cell → Cell
cell_or_null None = cell.Null
cell_or_null (Some c) = c

abbrev pub cell_in_row : ℕ → Option (List Cell) → Cell
cell_in_row column None = cell.Null
cell_in_row column (Some cells) = cell_or_null (slice_get cells column)

-- the cell at the place, and NULL where there is none
abbrev pub cell_at : List (List Cell) → Place → Cell
cell_at rows place = cell_in_row place.column (slice_get rows place.range)

-- what an expression gives, once its parts have given theirs
abbrev pub step : List (List Cell) → Session → part.Placed-F Value → Value
step rows session (part.Or parts) = or_value parts
step rows session (part.And parts) = and_value parts
step rows session (part.Not a) = not_value a
step rows session (part.Compare asked a b) = compare_value asked a b
step rows session (part.IsNull a negated) = null_value negated a
step rows session (part.Like text pattern negated) = like_value negated text pattern
step rows session (part.In a choices negated) = in_value negated a choices
step rows session (part.Between a low high negated) = between_value negated a low high
step rows session (part.Sum parts) = sum_value parts
step rows session (part.Product parts) = product_value parts
step rows session (part.Negate a) = sign_value a
step rows session (part.Number n) = Is (cell.Num n)
step rows session (part.Literal text) = Is (text_cell text)
step rows session part.Null = Is cell.Null
step rows session (part.Column place) = Is (cell_at rows place)
step rows session part.User = Is (user_cell session)
step rows session part.SessionNumber = Is (number_cell session)
step rows session part.Now = Is (now_cell session)
step rows session (part.Moment m) = Is (cell.Moment m)

abbrev pub value_at : List (List Cell) → Session → Placed → Value
value_at rows session = fold-Placed Value (step rows session)

abbrev pub values_at : List (List Cell) → Session → List Placed → List Value
values_at rows session = map (value_at rows session)

abbrev pub signed_values_at : List (List Cell) → Session → List (Bool × Placed) → List (Bool × Value)
signed_values_at rows session = map (λ part. (part.0, value_at rows session part.1))
