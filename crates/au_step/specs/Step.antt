-- One step: what an ask is answered, and what becomes of the state.
use Rattle.std.specs.Prelude.{◌≡◌, ◌⊎◌, ℕ, ◌+◌, ◌*◌, min, Bool, true, false, ◌||◌, ◌==◌, nat_le, List, [], ◌∷◌, ◌++◌, length, map, filter, find, flat_map, is_some, if◌then◌else◌, MatchBool, Option, Some, None, MatchOption}
use Rattle.au_audit.specs.declared.place.Place.{Place}
use Rattle.au_audit.specs.Conditions.{forgetting}
use Rattle.au_audit.specs.Statements.{logoff_facts, logon_facts, object_of, recorded_text, statement_facts, tables_of}
use Rattle.au_base.specs.declared.ask.Ask.{Ask}
use Rattle.au_base.specs.declared.ask.Ask.TheVariants.{Local, Logon, Sql, Logoff}
use Rattle.au_base.specs.declared.code.Code.{Code}
use Rattle.au_base.specs.Codes.{DONE, NOT_LOGGED_ON, SESSION_PRESENT}
use Rattle.au_base.specs.Limits.{INSTANCE_SESSIONS, OPEN_SESSIONS, SESSION_COUNT}
use Rattle.au_base.specs.declared.numbers.ClientNo.{ClientNo}
use Rattle.au_base.specs.declared.numbers.SessionNo.{SessionNo}
use Rattle.au_base.specs.declared.numbers.Stamp.{Stamp}
use Rattle.au_base.specs.declared.reply.Reply.{Reply}
use Rattle.au_base.specs.declared.table.TableName.{TableName}
use Rattle.au_catalog.specs.Settling.{catalog_of}
use Rattle.au_entries.specs.declared.change.Change.{Change}
use Rattle.au_entries.specs.declared.decision.Busy.{Busy}
use Rattle.au_entries.specs.declared.facts.Facts.{Facts}
use Rattle.au_entries.specs.declared.fine_grained.FgaName.{FgaName}
use Rattle.au_entries.specs.declared.kept.Kept.{Kept}
use Rattle.au_entries.specs.declared.results.KeptResults.{KeptResults}
use Rattle.au_entries.specs.declared.trail_record.Record.{Record}
use Rattle.au_entries.specs.Frames.{after_parts}
use Rattle.au_expr.specs.Sessions as expressions
use Rattle.au_kept.specs.Staging.{final_change}
use Rattle.au_logon.specs.declared.admission.Admission.{Admission}
use Rattle.au_logon.specs.Admitting.{Admits, IsLocal}
use Rattle.au_recording.specs.declared.left.Left.{Left}
use Rattle.au_recording.specs.Recording.{left_by}
use Rattle.au_replay.specs.Reading.{conditions}
use Rattle.au_ruling.specs.declared.ruling.Ruling.{Ruling}
use Rattle.au_ruling.specs.Kinds.{commits}
use Rattle.au_ruling.specs.Rulings.{Comes, Ground, code_reply}
use Rattle.sql_ast.specs.declared.statement.Statement.{Statement}
use Rattle.au_step.specs.declared.session.Session.{Session}
use Rattle.au_step.specs.Abandoning.{sessions_without}
use Rattle.au_step.specs.Reading.{ReadsSoundly}
use Rattle.au_step.specs.State.{OpenSession, State, stamp_of}
use Rattle.au_txn.specs.declared.change.RowChange.{RowChange}
use Rattle.au_txn.specs.declared.finals.Final.{Final}
use Rattle.au_txn.specs.Finals.{AreFinals}
use Rattle.au_txn.specs.Rows.{of_triple, triple_of}
use Rattle.au_txn.specs.Transactions.{laid_over, names_table}
use Rattle.sql_parse.specs.Statements.{IsUnread}

-- What a step leaves to be kept: what becomes of the rows of the client that commits, where one does; its other changes, in
-- the order in which they happen; which records it purges, where it does; and its own records.
pub record Logged : Type 0 where
  pub commits : Option ClientNo
  pub rows : List Change
  pub changes : List Change
  pub purge : Option (Option Stamp)
  pub records : List Record

abbrev pub nothing_logged : Logged
nothing_logged = record { commits = None; rows = []; changes = []; purge = None; records = [] }

-- a step that changes nothing leaves its records
abbrev pub recorded : Left → Logged
recorded left = record { commits = None; rows = []; changes = []; purge = None; records = left.records }

-- all its changes: those of rows that it commits come first
abbrev pub all_changes : Logged → List Change
all_changes logged = logged.rows ++ logged.changes

-- the client's session and transaction, where it is logged on
abbrev pub session_of : List OpenSession → ClientNo → Option OpenSession
session_of sessions client = find (λ seat. seat.session.client.0 == client.0) sessions

abbrev pub transaction_in : Option OpenSession → List RowChange
transaction_in None = []
transaction_in (Some seat) = seat.transaction

-- the changes of rows that the client has made and not committed
abbrev pub transaction_of : List OpenSession → ClientNo → List RowChange
transaction_of sessions client = transaction_in (session_of sessions client)

-- one more, up to the number at which the counts of a session stop
abbrev pub counted : ℕ → ℕ
counted count = min (count + 1) SESSION_COUNT

-- so many more, up to there
abbrev pub with_more : ℕ → ℕ → ℕ
with_more count more = min (count + more) SESSION_COUNT

-- nothing was changed, nothing purged and nothing recorded
abbrev pub is_nothing : List Change → Option (Option Stamp) → List Record → Bool
is_nothing [] None [] = true
is_nothing _ _ _ = false

abbrev pub is_idle : Logged → Bool
is_idle logged = is_nothing (all_changes logged) logged.purge logged.records

-- The last stamp, after a step that leaves this: it becomes the event's where there is a change, a purge or a record.
abbrev pub last_after : Stamp → ℕ → Logged → Stamp
last_after last stamp logged = if is_idle logged then last else record { 0 = stamp }

-- What is kept after a step that leaves this, once its client's transaction is committed, where it is: the changes are made,
-- the records that are purged go, and its own follow at the trail's end.
abbrev pub kept_after : Kept → ℕ → Logged → Kept
kept_after kept stamp logged =
    after_parts conditions.tree (last_after kept.last stamp logged) logged.purge logged.changes logged.records kept

-- ---- what auditing leaves of an event

-- what an expression reads of an event of the user in this session, at this stamp
abbrev pub facts_at : List ℕ → SessionNo → ℕ → expressions.Session
facts_at user number stamp = record { user = user; session = number; stamp = record { 0 = stamp } }

-- the results of conditions that are kept for an event: these of its session, and those of the instance
abbrev pub results_seen : State → List (List ℕ × Bool) → KeptResults
results_seen m results = record { session = results; instance = m.results }

-- the records of the event, and the results that are kept after it, by the policies and grants before it
abbrev pub event_left : State → List (List ℕ × Bool) → Facts → Place → List FgaName → List (List ℕ) → Left
event_left m results facts place fired forgets =
    left_by (catalog_of m.kept) m.kept.grants (results_seen m results) (facts_at facts.user place.session place.stamp.0) facts place fired forgets

-- ---- statements

-- the session, with an empty transaction where it is the client's
abbrev pub settled : ClientNo → OpenSession → OpenSession
settled client seat = if seat.session.client.0 == client.0 then record seat { transaction = [] } else seat

-- The state once the client's transaction is committed: its changes are laid over the committed rows, and its transaction is
-- empty.
abbrev pub committed : ClientNo → State → State
committed client m = record m {
  kept = record m.kept { rows = map triple_of (laid_over (map of_triple m.kept.rows) (transaction_of m.sessions client)) };
  sessions = map (settled client) m.sessions;
}

-- the state in which the client's statement is decided: where it commits first, that after the commit
abbrev pub decided_in : State → ClientNo → Statement → State
decided_in m client statement = if commits statement then committed client m else m

-- what becomes of the client's rows by the commit, where the statement commits first
abbrev pub AreFinalsOf : Bool → State → ClientNo → List Final → Type 0
AreFinalsOf true m client finals = AreFinals (map of_triple m.kept.rows) (transaction_of m.sessions client) finals
AreFinalsOf false m client finals = finals ≡ []

-- those of the tables in which the session has changes
abbrev pub busy_of : List TableName → OpenSession → List (TableName × ClientNo)
busy_of tables seat = map (λ table. (table, seat.session.client)) (filter (λ table. names_table table seat.transaction) tables)

-- the users who have sessions; and of the tables that the user's statement names, in which of them which clients have changes
abbrev pub busy_in : State → List ℕ → Statement → Busy
busy_in m user statement =
    record { connected = map (λ seat. seat.session.user) m.sessions; tables = flat_map (busy_of (tables_of user statement)) m.sessions }

-- what a statement of the session is decided in
abbrev pub ground_of : State → Session → Statement → ℕ → Ground
ground_of m session statement stamp = record {
  kept = m.kept;
  busy = busy_in m session.user statement;
  client = session.client;
  session = facts_at session.user session.number stamp;
  transactions = transaction_of m.sessions;
}

-- where the records of a statement of the session stand, the statement being counted
abbrev pub statement_place : Session → ℕ → Statement → List ℕ → Place
statement_place session stamp statement text = record {
  session = session.number;
  entry = counted session.entries;
  statement = counted session.statements;
  stamp = record { 0 = stamp };
  object = object_of session.user statement;
  sql = Some (recorded_text text statement);
}

-- what auditing leaves of a statement that came to this
abbrev pub statement_left : State → Session → ℕ → Statement → List ℕ → Ruling → Left
statement_left m session stamp statement text ruling =
    event_left m session.results (statement_facts session.user statement ruling.used ruling.code)
    (statement_place session stamp statement text) ruling.fired ruling.forgets

-- the transaction after a statement that goes it on by these changes, or undoes it
abbrev pub transaction_after : Ruling → List RowChange → List RowChange
transaction_after ruling transaction = if ruling.undoes then [] else transaction ++ ruling.rows

-- the session with these counts and results
abbrev pub counting : ℕ → ℕ → List (List ℕ × Bool) → Session → Session
counting statements entries results session = record session { statements = statements; entries = entries; results = results }

-- The client's session, with one more statement, so many more records and these results, and with its transaction after the
-- statement; any other session forgets the results of the policies alone.
abbrev pub session_after : Session → Ruling → Left → OpenSession → OpenSession
session_after session ruling left seat =
    if seat.session.client.0 == session.client.0
    then record {
      session = counting (counted session.statements) (with_more session.entries (length left.records)) left.results.session seat.session;
      transaction = transaction_after ruling seat.transaction;
    }
    else record seat { session = record seat.session { results = forgetting ruling.forgets seat.session.results } }

-- what a statement leaves to be kept, before which this becomes of the rows of its client, where it commits
abbrev pub statement_logged : Statement → Session → List Final → Ruling → Left → Logged
statement_logged statement session finals ruling left = record {
  commits = if commits statement then Some session.client else None;
  rows = map final_change finals;
  changes = ruling.changes;
  purge = ruling.purge;
  records = left.records;
}

-- The state after a statement of the session that came to this in this state: what is kept is changed, the session counts
-- the statement and its records, its transaction goes on or is undone, and what is learnt and forgotten of conditions is
-- kept.
abbrev pub after_statement : State → Session → ℕ → Ruling → Left → Logged → State
after_statement m session stamp ruling left logged = record m {
  kept = kept_after m.kept stamp logged;
  sessions = map (session_after session ruling left) m.sessions;
  results = left.results.instance;
}

-- A statement of the session that was read. Where it commits first, that is so before all else, also where it is refused
-- then. What it comes to, its reply and its records are taken in the state in which it is decided.
pub record StatementStep (m : State) (session : Session) (statement : Statement) (text : List ℕ) (stamp : ℕ) (reply : Reply) (logged : Logged) (n : State) : Type 0 where
  pub finals : List Final
  pub are_finals : AreFinalsOf (commits statement) m session.client finals
  pub ruling : Ruling
  pub comes : Comes (ground_of (decided_in m session.client statement) session statement stamp) statement ruling
  pub replies : reply ≡ ruling.reply
  pub logs : logged
      ≡ statement_logged statement session finals ruling (statement_left (decided_in m session.client statement) session stamp statement text ruling)
  pub next : n
      ≡ after_statement (decided_in m session.client statement) session stamp ruling
      (statement_left (decided_in m session.client statement) session stamp statement text ruling) logged

-- a text that is a statement
pub record ReadStep (m : State) (session : Session) (text : List ℕ) (stamp : ℕ) (reply : Reply) (logged : Logged) (n : State) : Type 0 where
  pub statement : Statement
  pub reads : ReadsSoundly text statement
  pub step : StatementStep m session statement text stamp reply logged n

-- the code is the reply, and nothing is changed or recorded
pub record CodeStep (m : State) (code : Code) (reply : Reply) (logged : Logged) (n : State) : Type 0 where
  pub replies : reply ≡ code_reply code
  pub logs : logged ≡ nothing_logged
  pub same : n ≡ m

-- a text that is no statement: its code is the reply
abbrev pub UnreadStep : State → List ℕ → Reply → Logged → State → Type 0
UnreadStep m text reply logged n = (code : Code) × IsUnread text code × CodeStep m code reply logged n

-- a text of a client that has a session
abbrev pub SessionStep : State → Session → List ℕ → ℕ → Reply → Logged → State → Type 0
SessionStep m session text stamp reply logged n = ReadStep m session text stamp reply logged n ⊎ UnreadStep m text reply logged n

-- a text of a client: without a session it is refused, and nothing is changed or recorded
abbrev pub SqlStep : State → ClientNo → List ℕ → ℕ → Reply → Logged → State → Type 0
SqlStep m client text stamp reply logged n =
    MatchOption (session_of m.sessions client) (CodeStep m NOT_LOGGED_ON reply logged n) (λ seat. SessionStep m seat.session text stamp reply logged n)

-- ---- logons

-- as many sessions are open as can be, or the instance has drawn its last one
abbrev pub is_crowded : State → Bool
is_crowded m = nat_le OPEN_SESSIONS (length m.sessions) || nat_le INSTANCE_SESSIONS m.drawn

-- the number of the instance's next session
abbrev pub next_number : State → SessionNo
next_number m = record { 0 = m.kept.instance * 1000000000 + (m.drawn + 1) }

-- the number of a logon's session: the next one where it is admitted, else 0, which is that of no session
abbrev pub logon_number : State → Admission → SessionNo
logon_number m admission = if admission.code.0 == 0 then next_number m else record { 0 = 0 }

-- where the records of a logon stand: the first of its session, before all statements
abbrev pub logon_place : SessionNo → ℕ → Place
logon_place session stamp = record { session = session; entry = 1; statement = 0; stamp = record { 0 = stamp }; object = None; sql = None }

-- what auditing leaves of a logon; its session has no results yet
abbrev pub logon_left : State → ℕ → Admission → Left
logon_left m stamp admission =
    event_left m [] (logon_facts admission.user admission.used admission.code) (logon_place (logon_number m admission) stamp) [] []

-- the session that the logon begins
abbrev pub new_session : State → ClientNo → Admission → Left → Session
new_session m client admission left = record {
  client = client;
  user = admission.user;
  number = next_number m;
  statements = 0;
  entries = length left.records;
  results = left.results.session;
}

-- its transaction is empty
abbrev pub opened : Session → OpenSession
opened session = record { session = session; transaction = [] }

-- the sessions after the logon: its own is the last where it is admitted
abbrev pub sessions_after_logon : State → ClientNo → Admission → Left → List OpenSession
sessions_after_logon m client admission left =
    if admission.code.0 == 0 then m.sessions ++ opened (new_session m client admission left) ∷ [] else m.sessions

-- how many sessions the instance has drawn then
abbrev pub drawn_after_logon : State → Admission → ℕ
drawn_after_logon m admission = if admission.code.0 == 0 then m.drawn + 1 else m.drawn

-- The state after a logon: it is recorded, and begins the instance's next session where it is admitted.
abbrev pub after_logon : State → ClientNo → ℕ → Admission → Left → State
after_logon m client stamp admission left = record {
  kept = kept_after m.kept stamp (recorded left);
  sessions = sessions_after_logon m client admission left;
  drawn = drawn_after_logon m admission;
  results = left.results.instance;
}

-- a logon that is admitted or refused so
pub record AdmittedStep (m : State) (client : ClientNo) (stamp : ℕ) (admission : Admission) (reply : Reply) (logged : Logged) (n : State) : Type 0 where
  pub replies : reply ≡ code_reply admission.code
  pub logs : logged ≡ recorded (logon_left m stamp admission)
  pub next : n ≡ after_logon m client stamp admission (logon_left m stamp admission)

-- a logon of a client without a session, which is admitted or refused by one of these
abbrev pub OpensStep : (Admission → Type 0) → State → ClientNo → ℕ → Reply → Logged → State → Type 0
OpensStep Is m client stamp reply logged n = (admission : Admission) × Is admission × AdmittedStep m client stamp admission reply logged n

-- a logon: it is refused where the client has a session, which changes and records nothing
abbrev pub LogonStep : (Admission → Type 0) → State → ClientNo → ℕ → Reply → Logged → State → Type 0
LogonStep Is m client stamp reply logged n =
    MatchBool (is_some (session_of m.sessions client)) (CodeStep m SESSION_PRESENT reply logged n) (OpensStep Is m client stamp reply logged n)

-- ---- logoffs

-- where the records of a logoff stand: it counts as the session's next statement
abbrev pub logoff_place : Session → ℕ → Place
logoff_place session stamp = record {
  session = session.number;
  entry = counted session.entries;
  statement = counted session.statements;
  stamp = record { 0 = stamp };
  object = None;
  sql = None;
}

-- what auditing leaves of a logoff
abbrev pub logoff_left : State → Session → ℕ → Left
logoff_left m session stamp = event_left m session.results (logoff_facts session.user DONE) (logoff_place session stamp) [] []

-- the state after a logoff: it is recorded, the client's session has ended, and its transaction is lost
abbrev pub after_logoff : State → ClientNo → ℕ → Left → State
after_logoff m client stamp left = record m {
  kept = kept_after m.kept stamp (recorded left);
  sessions = sessions_without client m.sessions;
  results = left.results.instance;
}

-- a logoff of a client that has this session
pub record EndStep (m : State) (session : Session) (client : ClientNo) (stamp : ℕ) (reply : Reply) (logged : Logged) (n : State) : Type 0 where
  pub replies : reply ≡ code_reply DONE
  pub logs : logged ≡ recorded (logoff_left m session stamp)
  pub next : n ≡ after_logoff m client stamp (logoff_left m session stamp)

-- a logoff: without a session it is refused, and nothing is changed or recorded
abbrev pub LogoffStep : State → ClientNo → ℕ → Reply → Logged → State → Type 0
LogoffStep m client stamp reply logged n =
    MatchOption (session_of m.sessions client) (CodeStep m NOT_LOGGED_ON reply logged n) (λ seat. EndStep m seat.session client stamp reply logged n)

-- ---- all asks

-- The client's ask at this stamp is given the reply and leaves this to be kept, and the state goes from m to n.
abbrev pub LoggedStep : State → ClientNo → Ask → ℕ → Reply → Logged → State → Type 0
LoggedStep m client Local stamp reply logged n = LogonStep (IsLocal (is_crowded m)) m client stamp reply logged n
LoggedStep m client (Logon user password) stamp reply logged n = LogonStep (Admits m.kept.users m.kept.grants (is_crowded m) user password) m client stamp reply logged n
LoggedStep m client (Sql text) stamp reply logged n = SqlStep m client text stamp reply logged n
LoggedStep m client Logoff stamp reply logged n = LogoffStep m client stamp reply logged n

-- the client's ask at this stamp is given the reply, and the state goes from m to n
abbrev pub StepAt : State → ClientNo → Ask → ℕ → Reply → State → Type 0
StepAt m client ask stamp reply n = (logged : Logged) × LoggedStep m client ask stamp reply logged n

-- a client asks at a reading of the clock
pub record Event : Type 0 where
  pub client : ClientNo
  pub ask : Ask
  pub reading : ℕ

-- the event is given the reply, and the state goes from m to n
abbrev pub Step : State → Event → Reply → State → Type 0
Step m event reply n = StepAt m event.client event.ask (stamp_of m event.reading) reply n
