-- The code of a planned statement on rows is small, and its privileges stand in the order of their numbers.
use Rattle.std.proofs.Common.{◌<◌, ◌^◌, ◌==◌, ◌∙◌, Bool, true, false, [], ◌∷◌, sym, subst}
use Rattle.au_audit.specs.Statements.{tables_of}
use Rattle.au_base.specs.declared.action.Action.TheVariants as action
use Rattle.au_base.specs.declared.code.Code.{Code}
use Rattle.au_base.specs.declared.table.TableName.{TableName}
use Rattle.au_expr.specs.Sessions.{Session}
use Rattle.au_query.specs.declared.selected.Selected.{Selected}
use Rattle.au_world.specs.declared.row_plan.RowPlan.{RowPlan}
use Rattle.au_world.specs.Plans.{FollowsRights, IsQueryPlan, Truths}
use Rattle.au_world.specs.Rights.{refusal}
use Rattle.au_world.specs.Selecting.{IsAnswer, meant, range_of, ranges_of, seen_in, seen_of, tables_in}
use Rattle.au_world.specs.Sights.{Sight}
use Rattle.rec_parts.specs.Parts.{privileges_in_order}
use Rattle.sql_ast.specs.declared.statement.Statement.{Statement}
use Rattle.sql_ast.specs.declared.statement.Statement.TheVariants as is
use Rattle.au_base.specs.declared.action.Action.{Action}
use Rattle.au_base.specs.declared.numbers.ClientNo.{ClientNo}
use Rattle.au_change.specs.Deleting.{IsDeletion}
use Rattle.au_change.specs.Updating.{IsUpdate}
use Rattle.au_insert.specs.Inserting.{IsInsertion}
use Rattle.au_modify.specs.declared.modification.Modification.{Modification}
use Rattle.au_plan.specs.Plans.{FollowsRight, IsChangePlan, IsPlanOf, meant as changed}
use Rattle.au_ruling.proofs.ChangeCodes.{deletion_small, insertion_small, update_small}
use Rattle.au_ruling.proofs.Codes.{ConditionsFit, IsSmall, NamesFit}
use Rattle.au_ruling.proofs.QueryCodes.{counted_small, selected_small}
use Rattle.au_ruling.proofs.RightCodes.{IsSafe, IsUsable, TablesAreSame, delete_safe, insert_safe, rights_small, select_safe, update_safe, used_usable}

-- ---- the plan

abbrev pub IsPlanTold : RowPlan → Type 0
IsPlanTold plan = (plan.code.0 < 2 ^ 32) × privileges_in_order.IsSpellable plan.used

module _ (names : NamesFit) (conditions : ConditionsFit) (same : TablesAreSame) (truth : Truths) (sight : Sight) (client : ClientNo) (session : Session) where
  abbrev HasSmallAnswers : Statement → Type 0
  HasSmallAnswers x = (selected : Selected) → IsAnswer sight session x selected → IsSmall selected.code

  follows : (allowed : Bool) (x : Statement) (code : Code) (plan : RowPlan) → HasSmallAnswers x → IsSmall code → FollowsRights allowed truth sight session x code plan → IsSmall plan.code
  follows true x code plan answers small follows_so = subst IsSmall (sym follows_so.code) (answers follows_so.selected follows_so.answer)
  follows false x code plan answers small follows_so = subst IsSmall (sym follows_so.code) small

  planned : (x : Statement) (plan : RowPlan) → HasSmallAnswers x → IsQueryPlan truth sight session x plan → IsPlanTold plan
  planned x plan answers is_plan = (
    follows (is_plan.rights.code.0 == 0) x is_plan.rights.code plan answers
        (rights_small same action.Select select_safe sight.catalog.tables sight.grants session.user (tables_of session.user x) is_plan.rights is_plan.are) is_plan.comes,
    subst IsUsable (sym (is_plan.used ∙ is_plan.are.used)) (used_usable (refusal is_plan.are.answers) is_plan.are.answers),
  )

  -- ---- INSERT, UPDATE and DELETE

  follows_right : (allowed : Bool) (asked : Action) (table : TableName) (Is : Modification → Type 0) (code : Code) (plan : RowPlan)
      → ((modification : Modification) → Is modification → IsSmall modification.code) → IsSmall code → FollowsRight allowed truth sight asked table Is code plan → IsSmall plan.code
  follows_right true asked table Is code plan each small made = subst IsSmall (sym made.code) (each made.modification made.is_so)
  follows_right false asked table Is code plan each small barred = subst IsSmall (sym barred.refused.code) small

  changing : (asked : Action) → IsSafe asked → (table : TableName) (Is : Modification → Type 0) (plan : RowPlan)
      → ((modification : Modification) → Is modification → IsSmall modification.code) → IsChangePlan truth sight session asked table Is plan → IsPlanTold plan
  changing asked safe table Is plan each is_plan = (
    follows_right (is_plan.rights.code.0 == 0) asked table Is is_plan.rights.code plan each
        (rights_small same asked safe sight.catalog.tables sight.grants session.user (table ∷ []) is_plan.rights is_plan.are) is_plan.comes,
    subst IsUsable (sym (is_plan.used ∙ is_plan.are.used)) (used_usable (refusal is_plan.are.answers) is_plan.are.answers),
  )

  pub plan_told : (x : Statement) (plan : RowPlan) → IsPlanOf truth sight client session x plan → IsPlanTold plan
  plan_told (is.Select x) plan is_plan =
      planned (is.Select x) plan (λ selected answer. selected_small names conditions session (ranges_of sight session.user (tables_in x.from)) (seen_in sight session.user (tables_in x.from)) x selected answer) is_plan
  plan_told (is.Count x) plan is_plan =
      planned (is.Count x) plan (λ selected answer. counted_small names conditions session (range_of sight.catalog.tables session.user x.table) (seen_of sight (meant session.user x.table)) x selected answer) is_plan
  plan_told (is.Insert x) plan is_plan =
      changing action.Insert insert_safe (changed session x.table) (IsInsertion sight client session (changed session x.table) x) plan
      (insertion_small names sight client session (changed session x.table) x) is_plan
  plan_told (is.Update x) plan is_plan =
      changing action.Update update_safe (changed session x.table) (IsUpdate sight client session (changed session x.table) x) plan
      (update_small names conditions sight client session (changed session x.table) x) is_plan
  plan_told (is.Delete x) plan is_plan =
      changing action.Delete delete_safe (changed session x.table) (IsDeletion sight client session (changed session x.table) x) plan
      (deletion_small names conditions sight client session (changed session x.table) x) is_plan
  plan_told is.Commit plan is_plan = absurd is_plan
  plan_told is.Rollback plan is_plan = absurd is_plan
  plan_told (is.CreateTable x) plan is_plan = absurd is_plan
  plan_told (is.DropTable x) plan is_plan = absurd is_plan
  plan_told (is.CreateUser x y) plan is_plan = absurd is_plan
  plan_told (is.AlterUser x y) plan is_plan = absurd is_plan
  plan_told (is.DropUser x) plan is_plan = absurd is_plan
  plan_told (is.CreateRole x) plan is_plan = absurd is_plan
  plan_told (is.DropRole x) plan is_plan = absurd is_plan
  plan_told (is.Grant x) plan is_plan = absurd is_plan
  plan_told (is.CreatePolicy x) plan is_plan = absurd is_plan
  plan_told (is.DropPolicy x) plan is_plan = absurd is_plan
  plan_told (is.Audit x) plan is_plan = absurd is_plan
  plan_told (is.Noaudit x y) plan is_plan = absurd is_plan
  plan_told (is.Call x) plan is_plan = absurd is_plan
