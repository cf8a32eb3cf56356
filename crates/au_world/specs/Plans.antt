-- What a plan of a statement on rows says (the order of the rules is this project's profile; the fine-grained policies are
-- those of PL/SQL Packages and Types Reference, "DBMS_FGA").
use Rattle.std.specs.Prelude.{◌≡◌, ◌==◌, Bool, true, false, List, [], map, filter}
use Rattle.std.specs.List.{list_any}
use Rattle.au_audit.specs.Firing.{RowFacts, fired}
use Rattle.au_audit.specs.Statements.{tables_of}
use Rattle.au_base.specs.declared.action.Action.TheVariants as action
use Rattle.au_base.specs.declared.cell.Cell.{Cell}
use Rattle.au_base.specs.declared.code.Code.{Code}
use Rattle.au_base.specs.declared.numbers.ClientNo.{ClientNo}
use Rattle.au_base.specs.declared.numbers.RowNo.{RowNo}
use Rattle.au_base.specs.declared.table.TableName.{TableName}
use Rattle.au_base.specs.declared.truth.Truth.{Truth}
use Rattle.au_expr.specs.Sessions.{Session}
use Rattle.au_query.specs.declared.selected.Selected.{Selected}
use Rattle.au_query.specs.Answers.{refused}
use Rattle.au_query.specs.Combos.{Line}
use Rattle.au_world.specs.declared.rights.TableRights.{TableRights}
use Rattle.au_world.specs.declared.row_plan.RowPlan.{RowPlan}
use Rattle.au_world.specs.Rights.{AreTableRights}
use Rattle.au_world.specs.Selecting.{IsAnswer}
use Rattle.au_world.specs.Sights.{Sight, rows_seen}
use Rattle.sql_ast.specs.declared.expression.Expr.{Expr}
use Rattle.sql_ast.specs.declared.statement.Statement.{Statement}
use Rattle.sql_ast.specs.declared.statement.Statement.TheVariants.{Count, Select}

-- both show the same, each client's changes among it
pub record ShowTheSame (a b : Sight) : Type 0 where
  pub catalog : a.catalog ≡ b.catalog
  pub grants : a.grants ≡ b.grants
  pub rows : a.rows ≡ b.rows
  pub own : a.own ≡ b.own
  pub transactions : (client : ClientNo) → a.transactions client ≡ b.transactions client
  pub trail : a.trail ≡ b.trail

-- the truth of a fine-grained policy's condition over a row of its table
abbrev pub Truths : Type 0
Truths = TableName → Expr → List Cell → Truth

abbrev pub is_one_of : List RowNo → Line → Bool
is_one_of numbers line = list_any (λ (number : RowNo). number.0 == line.0.0) numbers

-- the table, and its rows with these numbers, as they are seen
abbrev pub cells_touched : Sight → TableName × List RowNo → TableName × List (List Cell)
cells_touched sight entry = (entry.0, map (λ (line : Line). line.1) (filter (is_one_of entry.1) (rows_seen sight entry.0)))

-- what a query does to rows: those that it touches, and the columns that it names
abbrev pub row_facts : Sight → Selected → RowFacts
row_facts sight selected = record { action = action.Select; touched = map (cells_touched sight) selected.touched; named = selected.named }

-- what comes of a query whose tables its user may read: what it answers, and the policies that demand a record of it
pub record IsAnswered (truth : Truths) (sight : Sight) (session : Session) (statement : Statement) (plan : RowPlan) : Type 0 where
  pub selected : Selected
  pub answer : IsAnswer sight session statement selected
  pub code : plan.code ≡ selected.code
  pub reply : plan.reply ≡ selected.reply
  pub policies : plan.fired ≡ fired truth selected.code (row_facts sight selected) sight.catalog.fga

-- what comes of a statement that is refused: the code, and nothing else
pub record IsRefused (refusal : Code) (plan : RowPlan) : Type 0 where
  pub code : plan.code ≡ refusal
  pub reply : plan.reply ≡ (refused refusal).reply
  pub policies : plan.fired ≡ []

-- by whether the rights allow it
abbrev pub FollowsRights : Bool → Truths → Sight → Session → Statement → Code → RowPlan → Type 0
FollowsRights true truth sight session statement code plan = IsAnswered truth sight session statement plan
FollowsRights false truth sight session statement code plan = IsRefused code plan

-- A query first asks for the right to select from each table that it names. The privileges that make this possible are
-- used, also where the query is refused later. A query changes nothing.
pub record IsQueryPlan (truth : Truths) (sight : Sight) (session : Session) (statement : Statement) (plan : RowPlan) : Type 0 where
  pub rights : TableRights
  pub are : AreTableRights sight.catalog.tables sight.grants session.user action.Select (tables_of session.user statement) rights
  pub used : plan.used ≡ rights.used
  pub changes : plan.changes ≡ []
  pub comes : FollowsRights (rights.code.0 == 0) truth sight session statement rights.code plan

-- what a query comes to; another statement has no plan here
abbrev pub IsPlanOf : Truths → Sight → Session → Statement → RowPlan → Type 0
IsPlanOf truth sight session (Select select) plan = IsQueryPlan truth sight session (Select select) plan
IsPlanOf truth sight session (Count count) plan = IsQueryPlan truth sight session (Count count) plan
IsPlanOf truth sight session _ plan = ⊥
