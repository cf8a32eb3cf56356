-- What UPDATE comes to (SQL Language Reference, "UPDATE"; the codes and their order are this project's profile).
use Rattle.std.specs.Prelude.{◌≡◌, ◌||◌, ℕ, Bool, List, [], ◌∷◌, ◌++◌, filter, map, None, Option, Some}
use Rattle.std.specs.List.{enumerate_from, list_any, zip}
use Rattle.au_base.specs.declared.cell.Cell.{Cell}
use Rattle.au_base.specs.declared.code.Code.{Code}
use Rattle.au_base.specs.declared.numbers.ClientNo.{ClientNo}
use Rattle.au_base.specs.declared.table.Column.{Column}
use Rattle.au_base.specs.declared.table.TableName.{TableName}
use Rattle.au_base.specs.Codes.{DONE, KEY_PRESENT, LOCKED, NULL_SET, OVERFLOW}
use Rattle.au_choose.specs.Choosing.{IsSomeLocked, choice_refusal, chosen_in, conditions_over, range_in, where_kind, where_name}
use Rattle.au_expr.specs.declared.placed.Placed.{Placed}
use Rattle.au_expr.specs.Names.{first, or_code}
use Rattle.au_expr.specs.Placing.{value_at}
use Rattle.au_expr.specs.Resolving.{placed}
use Rattle.au_expr.specs.Rows.{Range}
use Rattle.au_expr.specs.Sessions.{Session}
use Rattle.au_expr.specs.Values.{Value, cell_in, is_overflow}
use Rattle.au_modify.specs.declared.modification.Modification.{Modification}
use Rattle.au_modify.specs.Columns.{column_called, is_called}
use Rattle.au_modify.specs.Fitting.{fit_code}
use Rattle.au_modify.specs.Keys.{AreTwoUnderOne, IsSomeKeyLocked}
use Rattle.au_modify.specs.Modifying.{Comes, Unless}
use Rattle.au_modify.specs.Targets.{given_or, kinds_refusal, names_refusal, target_refusal}
use Rattle.au_query.specs.Answers.{is_named}
use Rattle.au_query.specs.Combos.{Line}
use Rattle.au_query.specs.Refusals.{where_broken}
use Rattle.au_txn.specs.declared.change.RowChange.{RowChange}
use Rattle.au_world.specs.Sights.{Sight}
use Rattle.sql_ast.specs.declared.expression.Expr.{Expr}
use Rattle.sql_ast.specs.declared.rows.Assignment.{Assignment}
use Rattle.sql_ast.specs.declared.rows.Update.{Update}

-- ---- what is set

-- the columns that are set, and the expressions that they are set to, in order
abbrev pub targets : Update → List (List ℕ)
targets update = map (λ (assignment : Assignment). assignment.column) update.assignments

abbrev pub values : Update → List Expr
values update = map (λ (assignment : Assignment). assignment.value) update.assignments

-- what an assignment gives over the row as it was
abbrev pub value_over : Session → Range → Line → Assignment → Value
value_over session range row assignment = value_at (row.1 ∷ []) session (placed (range ∷ []) assignment.value)

-- the cells that the assignments give over the row, each with the name of its column
abbrev pub given : Session → Range → List Assignment → Line → List (List ℕ × Cell)
given session range assignments row =
    map (λ (assignment : Assignment). (assignment.column, cell_in (value_over session range row assignment))) assignments

-- the row as it is then: of each column the cell that is given for it, and the one that it had where none is
abbrev pub set_row : Session → Range → List Assignment → Line → List Cell
set_row session range assignments row =
    map (λ (p : Column × Cell). given_or p.1 (given session range assignments row) p.0) (zip range.1 row.1)

-- the row comes to have these cells
abbrev pub row_update : TableName → Session → Range → List Assignment → Line → RowChange
row_update table session range assignments row =
    record { table = table; row = row.0; old = Some row.1; new = Some (set_row session range assignments row) }

-- a change of each chosen row, also of one that keeps its cells
abbrev pub updates : Sight → Session → TableName → Update → List RowChange
updates sight session table update =
    map (row_update table session (range_in sight table) update.assignments) (chosen_in sight session table update.condition)

-- ---- the rules

-- a column that is set which is unknown, or is set before; then 904 in the expressions, WHERE the last; then 932 in them
abbrev pub text_refusal : Range → Update → Option Code
text_refusal range update =
    first (
    target_refusal range.1 (targets update)
    ∷ names_refusal (range ∷ []) (values update)
    ∷ where_name range update.condition
    ∷ kinds_refusal (range ∷ []) range.1 (targets update) (values update)
    ∷ where_kind range update.condition
    ∷ []
    )

-- of the column, where there is one, and the cell that it is set to: 1407, 12899 and 1438
abbrev pub set_code : Option Column → Cell → Option Code
set_code None content = None
set_code (Some column) content = fit_code NULL_SET column content

-- 1426 of an assignment over a row, and else what doesn't fit its column
abbrev pub assignment_code : Session → Range → Line → Assignment → Option Code
assignment_code session range row assignment =
    or_code
    (where_broken (is_overflow (value_over session range row assignment)) OVERFLOW)
    (set_code (column_called range.1 assignment.column) (cell_in (value_over session range row assignment)))

-- the first code of a row, in the order of the assignments
abbrev pub row_code : Session → Range → List Assignment → Line → Option Code
row_code session range assignments row = first (map (assignment_code session range row) assignments)

-- the first code of a chosen row, in the order of their numbers
abbrev pub rows_refusal : Sight → Session → TableName → Update → Option Code
rows_refusal sight session table update =
    first (map (row_code session (range_in sight table) update.assignments) (chosen_in sight session table update.condition))

-- ---- the columns that are referenced

-- all expressions of the statement
abbrev pub expressions : Range → Update → List Placed
expressions range update = map (placed (range ∷ [])) (values update) ++ conditions_over range update.condition

-- the column is set, or an expression names it
abbrev pub is_referenced : Range → Update → ℕ × Column → Bool
is_referenced range update p = list_any (λ name. is_called name p.1) (targets update) || is_named (expressions range update) (0 ∷ []) p

abbrev pub referenced : Range → Update → List (List ℕ)
referenced range update = map (λ (p : ℕ × Column). p.1.name) (filter (is_referenced range update) (enumerate_from 0 range.1))

-- ---- UPDATE

-- what comes of an UPDATE that is done
abbrev pub updated : Sight → Session → TableName → Update → Modification
updated sight session table update =
    record { code = DONE; changes = updates sight session table update; named = referenced (range_in sight table) update }

-- What comes of a client's UPDATE whose user may update the table: by its text, then by the choice of its rows, of which
-- none may be locked; then by what they are set to, row by row; then by their new keys, of which none may be locked; and at
-- last no two rows may have one key.
abbrev pub IsUpdate : Sight → ClientNo → Session → TableName → Update → Modification → Type 0
IsUpdate sight client session table update modification =
    Comes (or_code (text_refusal (range_in sight table) update) (choice_refusal sight session table update.condition))
    (Unless (IsSomeLocked sight client table (chosen_in sight session table update.condition)) LOCKED
    (Comes (rows_refusal sight session table update)
    (Unless (IsSomeKeyLocked sight client table (updates sight session table update)) LOCKED
    (Unless (AreTwoUnderOne sight table (updates sight session table update)) KEY_PRESENT
    (λ done. done ≡ updated sight session table update)))))
    modification
