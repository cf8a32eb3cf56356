-- What INSERT comes to (SQL Language Reference, "INSERT"; the codes and their order, and that a new row has the next number
-- of its table, are this project's profile).
use Rattle.std.specs.Prelude.{◌≡◌, ◌+◌, ◌||◌, ℕ, nat_le, nat_lt, Bool, List, [], ◌∷◌, length, map, Option, None, Some}
use Rattle.std.specs.List.{list_any, zip}
use Rattle.au_base.specs.declared.cell.Cell.{Cell}
use Rattle.au_base.specs.declared.cell.Cell.TheVariants as cell
use Rattle.au_base.specs.declared.code.Code.{Code}
use Rattle.au_base.specs.declared.numbers.ClientNo.{ClientNo}
use Rattle.au_base.specs.declared.numbers.RowNo.{RowNo}
use Rattle.au_base.specs.declared.table.Column.{Column}
use Rattle.au_base.specs.declared.table.TableName.{TableName}
use Rattle.au_base.specs.Codes.{DONE, KEY_PRESENT, LOCKED, NULL_INSERTED, OVERFLOW, TOO_FEW_VALUES, TOO_MANY_CHANGES, TOO_MANY_ROW_NUMBERS, TOO_MANY_VALUES}
use Rattle.au_base.specs.Limits.{LAST_ROW_NUMBER, TABLE_ROW_NUMBERS, TRANSACTION_CHANGES}
use Rattle.au_expr.specs.Names.{first, or_code}
use Rattle.au_expr.specs.Placing.{value_at}
use Rattle.au_expr.specs.Resolving.{placed}
use Rattle.au_expr.specs.Sessions.{Session}
use Rattle.au_expr.specs.Values.{cell_in, is_overflow}
use Rattle.au_modify.specs.declared.modification.Modification.{Modification}
use Rattle.au_modify.specs.Columns.{names_of}
use Rattle.au_modify.specs.Fitting.{fit_code}
use Rattle.au_modify.specs.Keys.{IsLockedKey, IsPresentKey}
use Rattle.au_modify.specs.Modifying.{Comes, Unless}
use Rattle.au_modify.specs.Targets.{given_or, kinds_refusal, names_refusal, target_refusal}
use Rattle.au_query.specs.Refusals.{where_broken}
use Rattle.au_txn.specs.declared.change.RowChange.{RowChange}
use Rattle.au_txn.specs.Counts.{AreNumbers}
use Rattle.au_world.specs.Sights.{Sight, columns_of}
use Rattle.sql_ast.specs.declared.expression.Expr.{Expr}
use Rattle.sql_ast.specs.declared.rows.Insert.{Insert}

-- ---- values

-- the columns that get values: those that are listed, or else all
abbrev pub names_or : Option (List (List ℕ)) → List Column → List (List ℕ)
names_or None columns = names_of columns
names_or (Some names) columns = names

abbrev pub targets : List Column → Insert → List (List ℕ)
targets columns insert = names_or insert.columns columns

-- a listed column that is unknown, or stands before; more values than columns; fewer
abbrev pub listed_refusal : List Column → Insert → Option Code
listed_refusal columns insert =
    first (
    target_refusal columns (targets columns insert)
    ∷ where_broken (nat_lt (length (targets columns insert)) (length insert.values)) TOO_MANY_VALUES
    ∷ where_broken (nat_lt (length insert.values) (length (targets columns insert))) TOO_FEW_VALUES
    ∷ []
    )

-- a value overflows; values name no column
abbrev pub value_overflows : Session → Expr → Bool
value_overflows session value = is_overflow (value_at [] session (placed [] value))

abbrev pub cell_of : Session → Expr → Cell
cell_of session value = cell_in (value_at [] session (placed [] value))

-- the cells that are given, each with the name of its column
abbrev pub given : Session → List Column → Insert → List (List ℕ × Cell)
given session columns insert = zip (targets columns insert) (map (cell_of session) insert.values)

-- the new row: of each column the cell that is given for it, and NULL where none is
abbrev pub new_row : Session → List Column → Insert → List Cell
new_row session columns insert = map (given_or cell.Null (given session columns insert)) columns

-- the first column of the table, in order, that the new row doesn't fit
abbrev pub row_refusal : Session → List Column → Insert → Option Code
row_refusal session columns insert = first (map (λ (p : Column × Cell). fit_code NULL_INSERTED p.0 p.1) (zip columns (new_row session columns insert)))

-- The first rule that the values break: a name in one of them; a kind; an overflow; a column that the new row doesn't fit.
abbrev pub value_refusal : Session → List Column → Insert → Option Code
value_refusal session columns insert =
    first (
    names_refusal [] insert.values
    ∷ kinds_refusal [] columns (targets columns insert) insert.values
    ∷ where_broken (list_any (value_overflows session) insert.values) OVERFLOW
    ∷ row_refusal session columns insert
    ∷ []
    )

-- ---- INSERT

-- the table has no room for a new row: it has as many numbers as a table may have, or the last one is used
abbrev pub is_full : ℕ → ℕ → Bool
is_full count last = nat_le TABLE_ROW_NUMBERS count || nat_le LAST_ROW_NUMBER last

-- the table has no room for the row; and else the transaction has none for its change
abbrev pub room_refusal : List RowChange → ℕ → ℕ → Option Code
room_refusal own count last =
    or_code
    (where_broken (is_full count last) TOO_MANY_ROW_NUMBERS)
    (where_broken (nat_le TRANSACTION_CHANGES (length own)) TOO_MANY_CHANGES)

-- the row comes
abbrev pub insertion : TableName → RowNo → List Cell → RowChange
insertion table number cells = record { table = table; row = number; old = None; new = Some cells }

-- what comes of an INSERT that is done: its row, under the number behind the last one; and the columns that get values
abbrev pub inserted : Session → List Column → TableName → ℕ → Insert → Modification
inserted session columns table last insert = record {
  code = DONE;
  changes = insertion table (record { 0 = last + 1 }) (new_row session columns insert) ∷ [];
  named = targets columns insert;
}

-- What comes of an INSERT whose values fit, by where its row comes to stand. So many numbers of rows of the table are used,
-- and this is the last one. Its key may not be locked, and no row may have it.
pub record IsPlacing (sight : Sight) (client : ClientNo) (session : Session) (table : TableName) (insert : Insert) (modification : Modification) : Type 0 where
  pub count : ℕ
  pub last : ℕ
  pub numbers : AreNumbers sight.rows sight.transactions table count last
  pub comes : Comes (room_refusal sight.own count last)
      (Unless (IsLockedKey sight client table (new_row session (columns_of sight.catalog.tables table) insert)) LOCKED
      (Unless (IsPresentKey sight table (new_row session (columns_of sight.catalog.tables table) insert)) KEY_PRESENT
      (λ done. done ≡ inserted session (columns_of sight.catalog.tables table) table last insert)))
      modification

-- What comes of a client's INSERT whose user may insert into the table: by the columns that are listed, then by the values,
-- then by where the row comes to stand.
abbrev pub IsInsertion : Sight → ClientNo → Session → TableName → Insert → Modification → Type 0
IsInsertion sight client session table insert modification =
    Comes (or_code (listed_refusal (columns_of sight.catalog.tables table) insert) (value_refusal session (columns_of sight.catalog.tables table) insert))
    (IsPlacing sight client session table insert)
    modification
