-- The value of an expression whose columns are found by name, over the named cells of a row.
use Rattle.std.specs.Prelude.{List}
use Rattle.au_base.specs.declared.cell.Cell.TheVariants as cell
use Rattle.au_base.specs.Cells.{text_cell}
use Rattle.sql_ast.specs.declared.expression.Expr.{Expr}
use Rattle.sql_ast.specs.declared.expression.Expr.TheOpen as part
use Rattle.sql_ast.specs.declared.expression.Expr.TheFolds.{fold-Expr}
use Rattle.au_expr.specs.Operators.{and_value, or_value, not_value, compare_value, null_value, like_value, in_value, between_value, sum_value, product_value, sign_value}
use Rattle.au_expr.specs.Rows.{NamedCell, cell_named}
use Rattle.au_expr.specs.Sessions.{Session, user_cell, now_cell, context_cell}
use Rattle.au_expr.specs.Values.{Value, Is}

-- what an expression gives, once its parts have given theirs; `''` is NULL
abbrev pub step : List NamedCell → Session → part.Expr-F Value → Value
step cells session (part.Or parts) = or_value parts
step cells session (part.And parts) = and_value parts
step cells session (part.Not a) = not_value a
step cells session (part.Compare asked a b) = compare_value asked a b
step cells session (part.IsNull a negated) = null_value negated a
step cells session (part.Like text pattern negated) = like_value negated text pattern
step cells session (part.In a choices negated) = in_value negated a choices
step cells session (part.Between a low high negated) = between_value negated a low high
step cells session (part.Sum parts) = sum_value parts
step cells session (part.Product parts) = product_value parts
step cells session (part.Negate a) = sign_value a
step cells session (part.Number n) = Is (cell.Num n)
step cells session (part.Literal text) = Is (text_cell text)
step cells session part.Null = Is cell.Null
step cells session (part.Column range column) = Is (cell_named cells range column)
step cells session part.User = Is (user_cell session)
step cells session part.Now = Is (now_cell session)
step cells session (part.Moment m) = Is (cell.Moment m)
step cells session (part.Context attribute) = Is (context_cell session attribute)

abbrev pub value : List NamedCell → Session → Expr → Value
value cells session = fold-Expr Value (step cells session)
