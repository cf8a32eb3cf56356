-- The columns that a statement gives values, and the values (SQL Language Reference, "INSERT" and "UPDATE"; the codes and
-- their order are this project's profile).
use Rattle.std.specs.Prelude.{ℕ, Bool, not, List, map, take, Option, Some, None}
use Rattle.std.specs.List.{enumerate_from, find, list_any, zip}
use Rattle.std.specs.Str.{bytes_eq}
use Rattle.au_base.specs.declared.cell.Cell.{Cell}
use Rattle.au_base.specs.declared.code.Code.{Code}
use Rattle.au_base.specs.declared.table.Column.{Column}
use Rattle.au_base.specs.Codes.{COLUMN_TWICE, UNKNOWN_COLUMN}
use Rattle.au_expr.specs.Names.{first, name_code, or_code}
use Rattle.au_expr.specs.Resolving.{value_code}
use Rattle.au_expr.specs.Rows.{Range}
use Rattle.au_modify.specs.Columns.{column_called, columns_called, has_column}
use Rattle.au_query.specs.Refusals.{where_broken}
use Rattle.sql_ast.specs.declared.expression.Expr.{Expr}

-- of the name at this place among the names: 904 where no column has it, and else 957 where it stands before
abbrev pub target_code : List Column → List (List ℕ) → ℕ × List ℕ → Option Code
target_code columns names p =
    or_code (where_broken (not (has_column columns p.1)) UNKNOWN_COLUMN) (where_broken (list_any (bytes_eq p.1) (take p.0 names)) COLUMN_TWICE)

-- the first of these codes in the order of the names
abbrev pub target_refusal : List Column → List (List ℕ) → Option Code
target_refusal columns names = first (map (target_code columns names) (enumerate_from 0 names))

-- the first code of a name in one of the values that doesn't mean one column
abbrev pub names_refusal : List Range → List Expr → Option Code
names_refusal ranges values = first (map (name_code ranges) values)

-- 932 of a value that isn't of the kind of its column
abbrev pub kind_code : List Range → Column × Expr → Option Code
kind_code ranges p = value_code (Some p.0.kind) ranges p.1

-- the first of them, the values being those of the columns of these names, in order
abbrev pub kinds_refusal : List Range → List Column → List (List ℕ) → List Expr → Option Code
kinds_refusal ranges columns names values = first (map (kind_code ranges) (zip (columns_called columns names) values))

-- a cell that is given for a column, which is named
abbrev pub is_given_for : Column → List ℕ × Cell → Bool
is_given_for column given = bytes_eq given.0 column.name

abbrev pub cell_or : Cell → Option (List ℕ × Cell) → Cell
cell_or otherwise None = otherwise
cell_or otherwise (Some given) = given.1

-- the cell that is given for the column, or else this one
abbrev pub given_or : Cell → List (List ℕ × Cell) → Column → Cell
given_or otherwise given column = cell_or otherwise (find (is_given_for column) given)

-- 932 of a value that isn't of the kind of the column of its name, where there is one
abbrev pub kind_code_for : List Range → Expr → Option Column → Option Code
kind_code_for ranges value None = None
kind_code_for ranges value (Some column) = kind_code ranges (column, value)

abbrev pub kind_code_of : List Range → List Column → List ℕ × Expr → Option Code
kind_code_of ranges columns p = kind_code_for ranges p.1 (column_called columns p.0)
