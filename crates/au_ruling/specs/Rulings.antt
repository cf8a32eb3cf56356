-- What a statement comes to, by what stands before it: its code, the system privileges that it used, its reply, what it
-- changes, and which fine-grained policies demand a record (SQL Language Reference, "SQL Statements"; the codes and their
-- order are this project's profile).
use Rattle.std.specs.Prelude.{◌≡◌, Bool, true, false, List, [], map, None}
use Rattle.au_admin.specs.Deciding as administration
use Rattle.au_base.specs.Codes.{DONE}
use Rattle.au_base.specs.declared.code.Code.{Code}
use Rattle.au_base.specs.declared.numbers.ClientNo.{ClientNo}
use Rattle.au_base.specs.declared.reply.Reply.{Reply}
use Rattle.au_calls.specs.Settings as auditing
use Rattle.au_catalog.specs.Settling.{catalog_of}
use Rattle.au_condition.specs.Reading.{condition_read}
use Rattle.au_define.specs.Deciding as definitions
use Rattle.au_define.specs.Settings as defining
use Rattle.au_entries.specs.declared.decision.Busy.{Busy}
use Rattle.au_entries.specs.declared.decision.Decision.{Decision}
use Rattle.au_entries.specs.declared.kept.Kept.{Kept}
use Rattle.au_expr.specs.Sessions.{Session}
use Rattle.au_fga.specs.Testing.{truth_over}
use Rattle.au_plan.specs.Plans.{IsPlanOf}
use Rattle.au_ruling.specs.declared.kind.StatementKind.{StatementKind}
use Rattle.au_ruling.specs.declared.kind.StatementKind.TheVariants.{OnRows, Commit, Rollback, Definition, Administration}
use Rattle.au_ruling.specs.declared.ruling.Ruling.{Ruling}
use Rattle.au_ruling.specs.Kinds.{kind_of}
use Rattle.au_txn.specs.declared.change.RowChange.{RowChange}
use Rattle.au_txn.specs.Rows.{of_triple}
use Rattle.au_world.specs.declared.row_plan.RowPlan.{RowPlan}
use Rattle.au_world.specs.Sights.{Sight}
use Rattle.sql_ast.specs.declared.statement.Statement.{Statement}

-- What a statement is decided in: what is kept; what sessions hold; the client; the event's user, session and stamp; and the
-- changes of rows that each client hasn't committed.
pub record Ground : Type 0 where
  pub kept : Kept
  pub busy : Busy
  pub client : ClientNo
  pub session : Session
  pub transactions : ClientNo → List RowChange

-- what the statement sees
abbrev pub sight_in : Ground → Sight
sight_in basis = record {
  catalog = catalog_of basis.kept;
  grants = basis.kept.grants;
  rows = map of_triple basis.kept.rows;
  own = basis.transactions basis.client;
  transactions = basis.transactions;
  trail = basis.kept.trail;
}

-- the plan is that of the statement on rows
abbrev pub IsPlanIn : Ground → Statement → RowPlan → Type 0
IsPlanIn basis statement plan = IsPlanOf (truth_over basis.session basis.kept.tables) (sight_in basis) basis.client basis.session statement plan

-- a code alone
abbrev pub code_reply : Code → Reply
code_reply code = record { code = code; columns = []; count = 0; rows = [] }

-- what a statement on rows comes to by its plan: of what is kept it changes nothing
abbrev pub of_plan : RowPlan → Ruling
of_plan plan = record {
  code = plan.code;
  used = plan.used;
  reply = plan.reply;
  rows = plan.changes;
  changes = [];
  purge = None;
  forgets = [];
  fired = plan.fired;
  undoes = false;
}

-- what another statement comes to by what is decided of it: it touches no row
abbrev pub of_decision : Decision → Ruling
of_decision decision = record {
  code = decision.code;
  used = decision.used;
  reply = code_reply decision.code;
  rows = [];
  changes = decision.changes;
  purge = decision.purge;
  forgets = decision.forgets;
  fired = [];
  undoes = false;
}

-- what COMMIT and ROLLBACK come to, which are always done: whether the transaction is undone
abbrev pub ended : Bool → Ruling
ended undoes = record {
  code = DONE;
  used = [];
  reply = code_reply DONE;
  rows = [];
  changes = [];
  purge = None;
  forgets = [];
  fired = [];
  undoes = undoes;
}

-- the decision is that of a statement on tables, users, roles or grants
abbrev pub IsDefined : Ground → Statement → Decision → Type 0
IsDefined basis statement decision =
    definitions.Decides (defining.setting_of basis.kept basis.session.user basis.client basis.busy) statement decision

-- the decision is that of a statement on audit policies, or of a call, whose condition, where it has one, is read
abbrev pub IsAdministered : Ground → Statement → Decision → Type 0
IsAdministered basis statement decision =
    administration.Decides
    (auditing.setting_of basis.kept basis.session.user basis.client basis.busy basis.session.stamp (condition_read basis.kept.tables basis.session.user statement))
    statement decision

-- What a statement of this kind comes to. A transaction that is committed is so before the statement is decided, also of
-- COMMIT itself.
abbrev pub ComesAs : StatementKind → Ground → Statement → Ruling → Type 0
ComesAs OnRows basis statement ruling = (plan : RowPlan) × IsPlanIn basis statement plan × (ruling ≡ of_plan plan)
ComesAs Commit basis statement ruling = ruling ≡ ended false
ComesAs Rollback basis statement ruling = ruling ≡ ended true
ComesAs Definition basis statement ruling = (decision : Decision) × IsDefined basis statement decision × (ruling ≡ of_decision decision)
ComesAs Administration basis statement ruling = (decision : Decision) × IsAdministered basis statement decision × (ruling ≡ of_decision decision)

-- what the statement comes to
abbrev pub Comes : Ground → Statement → Ruling → Type 0
Comes basis statement ruling = ComesAs (kind_of statement) basis statement ruling
