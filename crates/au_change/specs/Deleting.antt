-- What DELETE comes to (SQL Language Reference, "DELETE"; the codes and their order are this project's profile).
use Rattle.std.specs.Prelude.{◌≡◌, map, None, Option, Some}
use Rattle.au_base.specs.declared.code.Code.{Code}
use Rattle.au_base.specs.declared.numbers.ClientNo.{ClientNo}
use Rattle.au_base.specs.declared.table.TableName.{TableName}
use Rattle.au_base.specs.Codes.{DONE, LOCKED}
use Rattle.au_choose.specs.Choosing.{IsSomeLocked, choice_refusal, chosen_in, range_in, where_kind, where_name}
use Rattle.au_expr.specs.Names.{or_code}
use Rattle.au_expr.specs.Sessions.{Session}
use Rattle.au_modify.specs.declared.modification.Modification.{Modification}
use Rattle.au_modify.specs.Columns.{names_of}
use Rattle.au_modify.specs.Modifying.{Comes, Unless}
use Rattle.au_query.specs.Combos.{Line}
use Rattle.au_txn.specs.declared.change.RowChange.{RowChange}
use Rattle.au_world.specs.Sights.{Sight, columns_of}
use Rattle.sql_ast.specs.declared.rows.Delete.{Delete}

-- the row goes
abbrev pub deletion : TableName → Line → RowChange
deletion table row = record { table = table; row = row.0; old = Some row.1; new = None }

-- what comes of a DELETE that is done: each chosen row goes, and all columns of the table are referenced
abbrev pub deleted : Sight → Session → TableName → Delete → Modification
deleted sight session table delete = record {
  code = DONE;
  changes = map (deletion table) (chosen_in sight session table delete.condition);
  named = names_of (columns_of sight.catalog.tables table);
}

-- 904, and else 932, of WHERE; and else what refuses the choice
abbrev pub delete_refusal : Sight → Session → TableName → Delete → Option Code
delete_refusal sight session table delete =
    or_code (where_name (range_in sight table) delete.condition)
    (or_code (where_kind (range_in sight table) delete.condition)
    (choice_refusal sight session table delete.condition))

-- What comes of a client's DELETE whose user may delete from the table.
abbrev pub IsDeletion : Sight → ClientNo → Session → TableName → Delete → Modification → Type 0
IsDeletion sight client session table delete modification =
    Comes (delete_refusal sight session table delete)
    (Unless (IsSomeLocked sight client table (chosen_in sight session table delete.condition)) LOCKED
    (λ done. done ≡ deleted sight session table delete))
    modification
