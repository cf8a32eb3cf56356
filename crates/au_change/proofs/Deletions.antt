-- What a DELETE comes to.
use Rattle.std.proofs.Common.{◌≡◌, ◌∙◌, inr, List, map, sym, ap, ap₂, subst}
use Rattle.std.specs.Prelude.{IfOk, Option, None, Some, Result, Ok, Err}
use Rattle.au_base.specs.declared.code.Code.{Code}
use Rattle.au_base.specs.declared.memory.Memory.{Memory}
use Rattle.au_base.specs.declared.numbers.ClientNo.{ClientNo}
use Rattle.au_base.specs.declared.table.TableName.{TableName}
use Rattle.au_base.specs.Codes.{DONE, LOCKED}
use Rattle.au_change.specs.Deleting.{IsDeletion, deleted, deletion}
use Rattle.au_choose.specs.Choosing.{IsChoiceRefused, IsChosen, IsSomeLocked, choice_refusal, chosen_in, range_in, where_kind, where_name}
use Rattle.au_expr.specs.Names.{or_code}
use Rattle.au_expr.specs.Rows.{Range}
use Rattle.au_expr.specs.Sessions.{Session}
use Rattle.au_modify.specs.declared.modification.Modification.{Modification}
use Rattle.au_modify.specs.Columns.{names_of}
use Rattle.au_modify.specs.Modifying.{Comes, Unless, refused}
use Rattle.au_query.specs.Combos.{Line}
use Rattle.au_world.specs.Sights.{Sight}
use Rattle.sql_ast.specs.declared.rows.Delete.{Delete}
use Rattle.au_change.proofs.Coming.{behind, grouped, kept_by, refused_choice, refused_first}

-- what WHERE is refused with, and what the choice is refused with
module _ (sight : Sight) (client : ClientNo) (session : Session) (table : TableName) (delete : Delete) (range : Range) (is : range ≡ range_in sight table) where
  abbrev text : Option Code
  text = or_code (where_name (range_in sight table) delete.condition) (where_kind (range_in sight table) delete.condition)

  abbrev choice : Option Code
  choice = choice_refusal sight session table delete.condition

  abbrev Later : Modification → Type 0
  Later = Unless (IsSomeLocked sight client table (chosen_in sight session table delete.condition)) LOCKED (λ done. done ≡ deleted sight session table delete)

  text_at : (found : Option Code) → found ≡ or_code (where_name range delete.condition) (where_kind range delete.condition) → text ≡ found
  text_at found told = sym (told ∙ ap (λ (r : Range). or_code (where_name r delete.condition) (where_kind r delete.condition)) is)

  joined : (m : Modification) → Comes (or_code text choice) Later m → IsDeletion sight client session table delete m
  joined m comes =
      subst (λ (code : Option Code). Comes code Later m)
      (grouped (where_name (range_in sight table) delete.condition) (where_kind (range_in sight table) delete.condition) choice) comes

  pub refused_text : (code : Code) (m : Modification) → Some code ≡ or_code (where_name range delete.condition) (where_kind range delete.condition)
      → m ≡ refused code → IsDeletion sight client session table delete m
  refused_text code m told same =
      subst (λ (n : Modification). IsDeletion sight client session table delete n) (sym same)
      (joined (refused code) (refused_first text choice code Later (text_at (Some code) told)))

  pub refused_rows : (code : Code) (m : Modification) → None ≡ or_code (where_name range delete.condition) (where_kind range delete.condition)
      → IsChoiceRefused sight client session table delete.condition code → m ≡ refused code → IsDeletion sight client session table delete m
  refused_rows code m told choice_is same =
      subst (λ (n : Modification). IsDeletion sight client session table delete n) (sym same)
      (joined (refused code) (behind text choice Later (refused code) (text_at None told)
      (refused_choice choice (IsSomeLocked sight client table (chosen_in sight session table delete.condition)) LOCKED code (λ done. done ≡ deleted sight session table delete) choice_is)))

  done_at : (rows : List Line) (m : Modification) → None ≡ or_code (where_name range delete.condition) (where_kind range delete.condition)
      → IsChosen sight client session table delete.condition rows
      → m ≡ record { code = DONE; changes = map (deletion table) rows; named = names_of range.1 } → IsDeletion sight client session table delete m
  done_at rows m told chosen made =
      joined m (behind text choice Later m (text_at None told) (kept_by choice Later m chosen.unrefused (inr (
        (λ locked. chosen.unlocked (subst (λ (rs : List Line). IsSomeLocked sight client table rs) (sym chosen.rows_are) locked)),
        made ∙ ap₂ (λ (rs : List Line) (r : Range). let n : Modification = record { code = DONE; changes = map (deletion table) rs; named = names_of r.1 } in n) chosen.rows_are is,
      ))))

  pub done_rows : (rows : List Line) (result : Result Modification Memory) → None ≡ or_code (where_name range delete.condition) (where_kind range delete.condition)
      → IsChosen sight client session table delete.condition rows
      → IfOk result (λ m. m ≡ record { code = DONE; changes = map (deletion table) rows; named = names_of range.1 })
      → IfOk result (λ m. IsDeletion sight client session table delete m)
  done_rows rows (Ok m) told chosen made = done_at rows m told chosen made
  done_rows rows (Err e) told chosen made = made
