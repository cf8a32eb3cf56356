-- Comparisons of a column with a number or a text, and other tests of a row.
use Rattle.std.specs.Prelude.{◌≡◌, ℕ, Bool, true, List, [], ◌∷◌, Some, None}
use Rattle.std.specs.List.{slice_get}
use Rattle.au_base.specs.declared.cell.Cell.{Cell}
use Rattle.au_base.specs.declared.cell.Cell.TheVariants as cell
use Rattle.au_audit.specs.Conditions.{is_yes}
use Rattle.au_entries.specs.declared.table.Table.{Table}
use Rattle.au_expr.specs.Names.{name_code}
use Rattle.au_expr.specs.Operators.{compared}
use Rattle.au_expr.specs.Placing.{cell_or_null, value_at}
use Rattle.au_expr.specs.Resolving.{placed}
use Rattle.au_expr.specs.Rows.{FitsColumns}
use Rattle.au_expr.specs.Sessions.{Session}
use Rattle.au_expr.specs.Values.{Is}
use Rattle.au_fga.specs.declared.comparing.Bound.{Bound}
use Rattle.au_fga.specs.declared.comparing.Bound.TheVariants as bound
use Rattle.au_fga.specs.declared.comparing.Comparison.{Comparison}
use Rattle.au_fga.specs.declared.testing.Test.{Test}
use Rattle.au_fga.specs.declared.testing.Test.TheVariants as test
use Rattle.au_fga.specs.Testing.{range_of, truth_in_table}
use Rattle.au_fga.specs.descent.Rows.{is_met_at}
use Rattle.sql_ast.specs.declared.expression.Expr.{Expr}
use Rattle.sql_ast.specs.declared.expression.Relation.{Relation}
use Rattle.sql_ast.specs.declared.expression.Relation.TheVariants as relation

-- what a column is compared with, as a cell
abbrev pub bound_cell : Bound → Cell
bound_cell (bound.Number number) = cell.Num number
bound_cell (bound.Text text) = cell.Text text.now

-- the cell compares with the other as it is asked; one that is NULL doesn't
abbrev pub cell_compares : Relation → Cell → Cell → Bool
cell_compares asked a b = is_yes (compared asked a b)

-- the same of the cell at the comparison's place and its bound
abbrev pub compares : Comparison → List Cell → Bool
compares comparison cells = cell_compares comparison.relation (cell_or_null (slice_get cells comparison.place)) (bound_cell comparison.bound)

-- what is asked of two sides is this of them the other way round
abbrev pub turned : Relation → Relation
turned relation.Equal = relation.Equal
turned relation.Unequal = relation.Unequal
turned relation.Less = relation.Greater
turned relation.LessEqual = relation.GreaterEqual
turned relation.Greater = relation.Less
turned relation.GreaterEqual = relation.LessEqual

-- where its name means one column of the table, the side gives the cell at this place
abbrev pub IsColumnAt : Table → Expr → ℕ → Type 0
IsColumnAt table side place =
    name_code (range_of table ∷ []) side ≡ None → (session : Session) (cells : List Cell) → value_at (cells ∷ []) session (placed (range_of table ∷ []) side) ≡ Is (cell_or_null (slice_get cells place))

-- over each row of any table, the side gives what a column is compared with
abbrev pub IsBound : Expr → Bound → Type 0
IsBound side given = (table : Table) (session : Session) (cells : List Cell) → value_at (cells ∷ []) session (placed (range_of table ∷ []) side) ≡ Is (bound_cell given)

-- it compares the one side, a column, with the other as is asked
pub record Compares (table : Table) (asked : Relation) (side other : Expr) (comparison : Comparison) : Type 0 where
  pub column : IsColumnAt table side comparison.place
  pub bound : IsBound other comparison.bound
  pub relation : comparison.relation ≡ asked

-- a row passes the test
abbrev pub passes : Session → Test → List Cell → Bool
passes session test.Every cells = true
passes session (test.Compared comparison) cells = compares comparison cells
passes session (test.Resolved tree) cells = is_met_at session tree cells

-- the answers of the test to rows of the table are those of the condition
abbrev pub Decides : Table → Expr → (Session → List Cell → Bool) → Type 0
Decides table tree answer = (session : Session) (cells : List Cell) → FitsColumns table.columns cells → answer session cells ≡ is_yes (truth_in_table session (Some table) tree cells)
