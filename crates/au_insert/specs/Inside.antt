-- What the calls of this crate hand on to one another.
use Rattle.std.specs.Prelude.{◌≡◌, ◌+◌, ℕ, nat_lt, List, [], ◌∷◌, length, map, Option, None, Some, Result, Ok, Err}
use Rattle.std.specs.List.{zip}
use Rattle.au_base.specs.declared.cell.Cell.{Cell}
use Rattle.au_base.specs.declared.cell.Cell.TheVariants as cell
use Rattle.au_base.specs.declared.code.Code.{Code}
use Rattle.au_base.specs.declared.numbers.ClientNo.{ClientNo}
use Rattle.au_base.specs.declared.table.Column.{Column}
use Rattle.au_base.specs.declared.table.ColumnKind.{ColumnKind}
use Rattle.au_base.specs.declared.table.TableName.{TableName}
use Rattle.au_base.specs.Codes.{DONE, KEY_PRESENT, LOCKED, NULL_INSERTED, TOO_FEW_VALUES, TOO_MANY_VALUES}
use Rattle.au_expr.specs.Names.{first, or_code}
use Rattle.au_expr.specs.Resolving.{value_code}
use Rattle.au_expr.specs.Sessions.{Session}
use Rattle.au_insert.specs.declared.row.NewRow.{NewRow}
use Rattle.au_insert.specs.Inserting.{insertion, listed_refusal, new_row, room_refusal, targets, value_refusal}
use Rattle.au_modify.specs.declared.modification.Modification.{Modification}
use Rattle.au_modify.specs.Fitting.{fit_code}
use Rattle.au_modify.specs.Keys.{IsLockedKey, IsPresentKey}
use Rattle.au_modify.specs.Modifying.{Comes, Unless}
use Rattle.au_modify.specs.Targets.{given_or, kinds_refusal, names_refusal, target_refusal}
use Rattle.au_query.specs.Refusals.{where_broken}
use Rattle.au_txn.specs.Counts.{AreNumbers}
use Rattle.au_world.specs.Sights.{Sight}
use Rattle.sql_ast.specs.declared.expression.Expr.{Expr}
use Rattle.sql_ast.specs.declared.rows.Insert.{Insert}

-- nothing refuses the value of some column's kind
abbrev pub IsFree : Expr → Type 0
IsFree value = (kind : ColumnKind) × (value_code (Some kind) [] value ≡ None)

-- the rules of the columns that are listed, by how many values there are
abbrev pub listed_code : List Column → List (List ℕ) → ℕ → Option Code
listed_code columns names values =
    first (
    target_refusal columns names
    ∷ where_broken (nat_lt (length names) values) TOO_MANY_VALUES
    ∷ where_broken (nat_lt values (length names)) TOO_FEW_VALUES
    ∷ []
    )

-- the rules that ask for no value
abbrev pub written_code : List Column → List (List ℕ) → List Expr → Option Code
written_code columns names values =
    first (listed_code columns names (length values) ∷ names_refusal [] values ∷ kinds_refusal [] columns names values ∷ [])

-- of each column the cell that is given for it, and NULL where none is
abbrev pub given_row : List Column → List (List ℕ) → List Cell → List Cell
given_row columns names given = map (given_or cell.Null (zip names given)) columns

-- the first column that its cell doesn't fit
abbrev pub fits : List Column → List Cell → Option Code
fits columns cells = first (map (λ (p : Column × Cell). fit_code NULL_INSERTED p.0 p.1) (zip columns cells))

-- what is answered of the columns and values of an INSERT: the new row and the columns that get values, or the code of the
-- first rule that is broken
abbrev pub MakesRow : Session → List Column → Insert → Result NewRow Code → Type 0
MakesRow session columns insert (Err code) = or_code (listed_refusal columns insert) (value_refusal session columns insert) ≡ Some code
MakesRow session columns insert (Ok row) =
    (or_code (listed_refusal columns insert) (value_refusal session columns insert) ≡ None) × (row ≡ record { cells = new_row session columns insert; named = targets columns insert })

-- what comes of a new row that has room and a key of its own
abbrev pub row_inserted : TableName → ℕ → NewRow → Modification
row_inserted table last row = record { code = DONE; changes = insertion table (record { 0 = last + 1 }) row.cells ∷ []; named = row.named }

-- what comes of a new row
pub record IsPlacedRow (sight : Sight) (client : ClientNo) (table : TableName) (row : NewRow) (modification : Modification) : Type 0 where
  pub count : ℕ
  pub last : ℕ
  pub numbers : AreNumbers sight.rows sight.transactions table count last
  pub comes : Comes (room_refusal sight.own count last)
      (Unless (IsLockedKey sight client table row.cells) LOCKED (Unless (IsPresentKey sight table row.cells) KEY_PRESENT (λ done. done ≡ row_inserted table last row)))
      modification
