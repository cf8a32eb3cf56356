-- What comes of a new row is what comes of its INSERT.
use Rattle.std.proofs.Common.{◌≡◌, List, subst}
use Rattle.std.specs.Prelude.{IfOk, Result, Ok, Err}
use Rattle.au_base.specs.declared.numbers.ClientNo.{ClientNo}
use Rattle.au_base.specs.declared.table.Column.{Column}
use Rattle.au_base.specs.declared.table.TableName.{TableName}
use Rattle.au_base.specs.Codes.{KEY_PRESENT, LOCKED}
use Rattle.au_expr.specs.Names.{or_code}
use Rattle.au_expr.specs.Sessions.{Session}
use Rattle.au_insert.specs.declared.row.NewRow.{NewRow}
use Rattle.au_insert.specs.Inserting.{IsInsertion, IsPlacing, listed_refusal, room_refusal, value_refusal}
use Rattle.au_insert.specs.Inside.{IsPlacedRow, MakesRow, row_inserted}
use Rattle.au_modify.specs.declared.modification.Modification.{Modification}
use Rattle.au_modify.specs.Keys.{IsLockedKey, IsPresentKey}
use Rattle.au_modify.specs.Modifying.{Comes, Unless}
use Rattle.au_world.specs.Sights.{Sight, columns_of}
use Rattle.sql_ast.specs.declared.rows.Insert.{Insert}
use Rattle.au_insert.proofs.Comings.{past_code}

pub if_ok : {X E : Type 0} (P Q : X → Type 0) → ((x : X) → P x → Q x) → (found : Result X E) → IfOk found P → IfOk found Q
if_ok P Q turn (Ok x) is = turn x is
if_ok P Q turn (Err error) is = is

pub by_placed : (sight : Sight) (client : ClientNo) (session : Session) (table : TableName) (insert : Insert) (columns : List Column) (row : NewRow) → columns ≡ columns_of sight.catalog.tables table
    → MakesRow session columns insert (Ok row) → (modification : Modification) → IsPlacedRow sight client table row modification → IsInsertion sight client session table insert modification
by_placed sight client session table insert columns row same makes modification placed =
    let all = columns_of sight.catalog.tables table in
    let made : MakesRow session all insert (Ok row) = subst (λ (some : List Column). MakesRow session some insert (Ok row)) same makes in
    past_code (or_code (listed_refusal all insert) (value_refusal session all insert)) (IsPlacing sight client session table insert) modification made.0
    (record {
      count = placed.count;
      last = placed.last;
      numbers = placed.numbers;
      comes = subst
          (λ (r : NewRow). Comes (room_refusal sight.own placed.count placed.last)
          (Unless (IsLockedKey sight client table r.cells) LOCKED (Unless (IsPresentKey sight table r.cells) KEY_PRESENT (λ done. done ≡ row_inserted table placed.last r))) modification)
          made.1 placed.comes;
    })
