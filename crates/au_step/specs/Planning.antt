-- The plan that goes with an ask: a statement on rows of a client that has a session comes with its plan, and nothing else has one.
use Rattle.std.specs.Prelude.{◌≡◌, ℕ, MatchBool, MatchOption, Option, None, Result, Ok, Err}
use Rattle.au_base.specs.declared.ask.Ask.{Ask}
use Rattle.au_base.specs.declared.ask.Ask.TheVariants.{Local, Logon, Sql, Logoff}
use Rattle.au_base.specs.declared.code.Code.{Code}
use Rattle.au_base.specs.declared.numbers.ClientNo.{ClientNo}
use Rattle.au_ruling.specs.Kinds.{is_on_rows}
use Rattle.au_ruling.specs.Rulings.{Ground, IsPlanIn}
use Rattle.au_world.specs.declared.row_plan.RowPlan.{RowPlan}
use Rattle.sql_ast.specs.declared.statement.Statement.{Statement}
use Rattle.au_step.specs.declared.session.Session.{Session}
use Rattle.au_step.specs.State.{State}
use Rattle.au_step.specs.Step.{ground_of, session_of}

-- there is no plan
abbrev pub IsUnplanned : Option RowPlan → Type 0
IsUnplanned plan = plan ≡ None

-- the plan is that of the statement on rows
abbrev pub IsPlanned : Ground → Statement → Option RowPlan → Type 0
IsPlanned basis statement plan = MatchOption plan ⊥ (IsPlanIn basis statement)

-- of a text of the session that is read as this
abbrev pub IsPlanOfRead : State → Session → ℕ → Result Statement Code → Option RowPlan → Type 0
IsPlanOfRead m session stamp (Ok statement) plan =
    MatchBool (is_on_rows statement) (IsPlanned (ground_of m session statement stamp) statement plan) (IsUnplanned plan)
IsPlanOfRead m session stamp (Err code) plan = IsUnplanned plan

-- of a text of a client
abbrev pub IsPlanOfSql : State → ClientNo → ℕ → Result Statement Code → Option RowPlan → Type 0
IsPlanOfSql m client stamp read plan =
    MatchOption (session_of m.sessions client) (IsUnplanned plan) (λ seat. IsPlanOfRead m seat.session stamp read plan)

-- of any ask
abbrev pub IsPlanFor : State → ClientNo → Ask → ℕ → Result Statement Code → Option RowPlan → Type 0
IsPlanFor m client (Sql text) stamp read plan = IsPlanOfSql m client stamp read plan
IsPlanFor m client Local stamp read plan = IsUnplanned plan
IsPlanFor m client (Logon user password) stamp read plan = IsUnplanned plan
IsPlanFor m client Logoff stamp read plan = IsUnplanned plan
