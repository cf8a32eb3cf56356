-- Which rows WHERE of an UPDATE or a DELETE chooses, and when it may (SQL Language Reference, "UPDATE" and "DELETE"; that
-- no statement waits for a lock, and the codes and their order, are this project's profile).
use Rattle.std.specs.Prelude.{◌≡◌, ◌⊎◌, ◌+◌, nat_lt, Bool, List, [], ◌∷◌, length, map, Option, None, Some, Result, Ok, Err}
use Rattle.std.specs.List.{Contains}
use Rattle.std.specs.Option.{option_to_list}
use Rattle.au_base.specs.declared.code.Code.{Code}
use Rattle.au_base.specs.declared.numbers.ClientNo.{ClientNo}
use Rattle.au_base.specs.declared.table.TableName.{TableName}
use Rattle.au_base.specs.Codes.{LOCKED, OVERFLOW, TOO_MANY_CHANGES}
use Rattle.au_base.specs.Limits.{TRANSACTION_CHANGES}
use Rattle.au_expr.specs.declared.placed.Placed.{Placed}
use Rattle.au_expr.specs.Names.{name_code, or_code}
use Rattle.au_expr.specs.Resolving.{condition_code, placed}
use Rattle.au_expr.specs.Rows.{Range}
use Rattle.au_expr.specs.Sessions.{Session}
use Rattle.au_query.specs.Combos.{Line, overflows}
use Rattle.au_query.specs.Counts.{passing_rows}
use Rattle.au_query.specs.Refusals.{code_if_there, where_broken}
use Rattle.au_txn.specs.declared.change.RowChange.{RowChange}
use Rattle.au_txn.specs.Transactions.{IsRowLocked}
use Rattle.au_world.specs.Sights.{Sight, columns_of, rows_seen}
use Rattle.sql_ast.specs.declared.expression.Expr.{Expr}

-- the table's own name, by which its columns may be qualified, and its columns
abbrev pub range_in : Sight → TableName → Range
range_in sight table = (table.name, columns_of sight.catalog.tables table)

-- WHERE over the table's columns
abbrev pub conditions_over : Range → Option Expr → List Placed
conditions_over range condition = map (placed (range ∷ [])) (option_to_list condition)

-- 904 of WHERE
abbrev pub where_name : Range → Option Expr → Option Code
where_name range condition = code_if_there (name_code (range ∷ [])) condition

-- and where it has none, 932 of it
abbrev pub where_kind : Range → Option Expr → Option Code
where_kind range condition = code_if_there (condition_code (range ∷ [])) condition

-- the rows that are seen over which WHERE is Yes; all of them where there is no WHERE
abbrev pub chosen_of : Session → Range → Option Expr → List Line → List Line
chosen_of session range condition rows = passing_rows session (conditions_over range condition) rows

-- the rows of the table that are chosen
abbrev pub chosen_in : Sight → Session → TableName → Option Expr → List Line
chosen_in sight session table condition = chosen_of session (range_in sight table) condition (rows_seen sight table)

-- WHERE overflows over some row that is seen
abbrev pub overflows_in : Sight → Session → TableName → Option Expr → Bool
overflows_in sight session table condition = overflows session (conditions_over (range_in sight table) condition) (rows_seen sight table ∷ [])

-- with a change of each of these rows the transaction has more changes than it may have
abbrev pub are_too_many : List RowChange → List Line → Bool
are_too_many own rows = nat_lt TRANSACTION_CHANGES (length own + length rows)

-- another client has a change of one of the rows
abbrev pub IsSomeLocked : Sight → ClientNo → TableName → List Line → Type 0
IsSomeLocked sight client table rows = (row : Line) × Contains rows row × IsRowLocked sight.transactions client table row.0

-- 1426 where WHERE overflows over some row, and else 99009 where too many rows are chosen
abbrev pub choice_refusal : Sight → Session → TableName → Option Expr → Option Code
choice_refusal sight session table condition =
    or_code
    (where_broken (overflows_in sight session table condition) OVERFLOW)
    (where_broken (are_too_many sight.own (chosen_in sight session table condition)) TOO_MANY_CHANGES)

-- what WHERE chooses: the rows, where no rule refuses that, and no row of them is locked
pub record IsChosen (sight : Sight) (client : ClientNo) (session : Session) (table : TableName) (condition : Option Expr) (rows : List Line) : Type 0 where
  pub unrefused : choice_refusal sight session table condition ≡ None
  pub unlocked : ¬ IsSomeLocked sight client table rows
  pub rows_are : rows ≡ chosen_in sight session table condition

-- the code where one does: that of the rule, and 54 where none of both is broken and a chosen row is locked
abbrev pub IsChoiceRefused : Sight → ClientNo → Session → TableName → Option Expr → Code → Type 0
IsChoiceRefused sight client session table condition code =
    (choice_refusal sight session table condition ≡ Some code)
    ⊎ ((choice_refusal sight session table condition ≡ None) × IsSomeLocked sight client table (chosen_in sight session table condition) × (code ≡ LOCKED))

-- what is answered of a choice: the rows, or the code
abbrev pub Chooses : Sight → ClientNo → Session → TableName → Option Expr → Result (List Line) Code → Type 0
Chooses sight client session table condition (Ok rows) = IsChosen sight client session table condition rows
Chooses sight client session table condition (Err code) = IsChoiceRefused sight client session table condition code
