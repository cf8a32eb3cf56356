-- What a statement on rows comes to (SQL Language Reference, "SELECT", "INSERT", "UPDATE" and "DELETE"; the codes and their
-- order are this project's profile; the fine-grained policies are those of PL/SQL Packages and Types Reference,
-- "DBMS_FGA").
use Rattle.std.specs.Prelude.{◌≡◌, ◌==◌, ⊤, Bool, true, false, List, [], ◌∷◌, ◌++◌, length}
use Rattle.std.specs.List.{flat_map}
use Rattle.std.specs.Option.{option_to_list}
use Rattle.au_audit.specs.Firing.{RowFacts, fired}
use Rattle.au_base.specs.declared.action.Action.{Action}
use Rattle.au_base.specs.declared.action.Action.TheVariants as action
use Rattle.au_base.specs.declared.cell.Cell.{Cell}
use Rattle.au_base.specs.declared.code.Code.{Code}
use Rattle.au_base.specs.declared.numbers.ClientNo.{ClientNo}
use Rattle.au_base.specs.declared.reply.Reply.{Reply}
use Rattle.au_base.specs.declared.table.TableName.{TableName}
use Rattle.au_base.specs.declared.table.TableReference.{TableReference}
use Rattle.au_base.specs.BuiltIn.{resolved_table}
use Rattle.au_change.specs.Deleting.{IsDeletion}
use Rattle.au_change.specs.Updating.{IsUpdate}
use Rattle.au_expr.specs.Sessions.{Session}
use Rattle.au_insert.specs.Inserting.{IsInsertion}
use Rattle.au_modify.specs.declared.modification.Modification.{Modification}
use Rattle.au_txn.specs.declared.change.RowChange.{RowChange}
use Rattle.au_world.specs.declared.rights.TableRights.{TableRights}
use Rattle.au_world.specs.declared.row_plan.RowPlan.{RowPlan}
use Rattle.au_world.specs.Plans.{IsQueryPlan, IsRefused, Truths}
use Rattle.au_world.specs.Rights.{AreTableRights}
use Rattle.au_world.specs.Sights.{Sight}
use Rattle.sql_ast.specs.declared.statement.Statement.{Statement}
use Rattle.sql_ast.specs.declared.statement.Statement.TheVariants.{Count, Delete, Insert, Select, Update}

-- the contents of the row before and after the change, where it has them
abbrev pub contents_in : RowChange → List (List Cell)
contents_in change = option_to_list change.old ++ option_to_list change.new

-- what INSERT, UPDATE and DELETE do to rows: they touch the old and the new row of each change
abbrev pub facts_of : Action → TableName → Modification → RowFacts
facts_of action table modification = record {
  action = action;
  touched = (table, flat_map contents_in modification.changes) ∷ [];
  named = (table, modification.named) ∷ [];
}

-- the reply has the code, and counts the rows that are changed
abbrev pub reply_of : Modification → Reply
reply_of modification = record { code = modification.code; columns = []; count = length modification.changes; rows = [] }

-- what comes of a statement whose user may change the table so: what it makes of rows, and the policies that demand a record
-- of it
pub record IsMade (truth : Truths) (sight : Sight) (action : Action) (table : TableName) (Is : Modification → Type 0) (plan : RowPlan) : Type 0 where
  pub modification : Modification
  pub is_so : Is modification
  pub code : plan.code ≡ modification.code
  pub reply : plan.reply ≡ reply_of modification
  pub changes : plan.changes ≡ modification.changes
  pub policies : plan.fired ≡ fired truth modification.code (facts_of action table modification) sight.catalog.fga

-- and of one whose user may not
pub record IsBarred (code : Code) (plan : RowPlan) : Type 0 where
  pub refused : IsRefused code plan
  pub changes : plan.changes ≡ []

abbrev pub FollowsRight : Bool → Truths → Sight → Action → TableName → (Modification → Type 0) → Code → RowPlan → Type 0
FollowsRight true truth sight action table Is code plan = IsMade truth sight action table Is plan
FollowsRight false truth sight action table Is code plan = IsBarred code plan

-- INSERT, UPDATE and DELETE first ask for the right to do so with their table. The privilege that makes this possible is
-- used, also where the statement is refused later.
pub record IsChangePlan (truth : Truths) (sight : Sight) (session : Session) (action : Action) (table : TableName) (Is : Modification → Type 0) (plan : RowPlan) : Type 0 where
  pub rights : TableRights
  pub are : AreTableRights sight.catalog.tables sight.grants session.user action (table ∷ []) rights
  pub used : plan.used ≡ rights.used
  pub comes : FollowsRight (rights.code.0 == 0) truth sight action table Is rights.code plan

-- the table that the user means
abbrev pub meant : Session → TableReference → TableName
meant session table = resolved_table session.user table

-- What a client's statement on rows comes to, by what it sees.
abbrev pub IsPlanOf : Truths → Sight → ClientNo → Session → Statement → RowPlan → Type 0
IsPlanOf truth sight client session (Select select) plan = IsQueryPlan truth sight session (Select select) plan
IsPlanOf truth sight client session (Count count) plan = IsQueryPlan truth sight session (Count count) plan
IsPlanOf truth sight client session (Insert insert) plan =
    IsChangePlan truth sight session action.Insert (meant session insert.table) (IsInsertion sight client session (meant session insert.table) insert) plan
IsPlanOf truth sight client session (Update update) plan =
    IsChangePlan truth sight session action.Update (meant session update.table) (IsUpdate sight client session (meant session update.table) update) plan
IsPlanOf truth sight client session (Delete delete) plan =
    IsChangePlan truth sight session action.Delete (meant session delete.table) (IsDeletion sight client session (meant session delete.table) delete) plan
IsPlanOf truth sight client session _ plan = ⊥

-- the statement is one on rows
abbrev pub IsOnRows : Statement → Type 0
IsOnRows (Select select) = ⊤
IsOnRows (Count count) = ⊤
IsOnRows (Insert insert) = ⊤
IsOnRows (Update update) = ⊤
IsOnRows (Delete delete) = ⊤
IsOnRows _ = ⊥
