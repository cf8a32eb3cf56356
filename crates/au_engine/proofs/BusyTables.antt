-- In which tables which clients have changes, by each client's list.
use Rattle.std.proofs.Common.{◌≡◌, ◌∙◌, ◌&&◌, ◌==◌, ℕ, Bool, true, false, cond, List, [], ◌∷◌, ◌++◌, map, refl, sym, ap, ap₂, subst}
use Rattle.std.specs.Prelude.{filter, if◌then◌else◌}
use Rattle.std.specs.List.{flat_map}
use Rattle.std.proofs.lemmas.List.Concat.{flat_map-cons}
use Rattle.au_base.specs.declared.numbers.ClientNo.{ClientNo}
use Rattle.au_base.specs.declared.table.TableName.{TableName}
use Rattle.au_entries.specs.declared.decision.Busy.{Busy}
use Rattle.au_kept.specs.Keeping.{Contents, desk_of}
use Rattle.au_step.specs.declared.session.Session.{Session}
use Rattle.au_step.specs.State.{OpenSession, State}
use Rattle.au_step.specs.Step.{busy_in, busy_of, settled}
use Rattle.au_txn.specs.declared.change.RowChange.{RowChange}
use Rattle.au_txn.specs.Desks.{open_of}
use Rattle.au_txn.specs.Logs.{Changes, changes_of}
use Rattle.au_txn.specs.Transactions.{names_table}
use Rattle.au_engine.specs.Inside.{busy_by}
use Rattle.au_engine.specs.Reserved.{with_changes}
use Rattle.au_engine.proofs.Rulings.{decided}
use Rattle.au_engine.proofs.Views.{open_is}

-- those of the tables in which the client has one of the changes
abbrev pub among : List TableName → List RowChange → ClientNo → List (TableName × ClientNo)
among tables changes client = map (λ table. (table, client)) (filter (λ table. names_table table changes) tables)

at_commit : (b : Bool) (tables : List TableName) (s : OpenSession) → busy_of tables (if b then record s { transaction = [] } else s) ≡ among tables (if b then [] else s.transaction) s.session.client
at_commit true tables s = refl
at_commit false tables s = refl

-- a session's, by what is looked up of its client's changes
pub busy_is : (logs : List Changes) (commits : Bool) (client : ClientNo) (tables : List TableName) (session : Session)
    → busy_by logs commits client tables session ≡ among tables (if commits && (session.client.0 == client.0) then [] else changes_of session.client logs) session.client
busy_is logs true client tables session = at_commit (session.client.0 == client.0) tables (with_changes logs session)
busy_is logs false client tables session = refl

user_settled_at : (b : Bool) (s : OpenSession) → (if b then record s { transaction = [] } else s).session.user ≡ s.session.user
user_settled_at true s = refl
user_settled_at false s = refl

users_settled : (client : ClientNo) (logs : List Changes) (sessions : List Session) → map (λ (s : OpenSession). s.session.user) (map (settled client) (map (with_changes logs) sessions)) ≡ map (λ (s : Session). s.user) sessions
users_settled client logs [] = refl
users_settled client logs (s ∷ sessions) =
    ap₂ (λ (u : List ℕ) (us : List (List ℕ)). u ∷ us) (user_settled_at (s.client.0 == client.0) (with_changes logs s)) (users_settled client logs sessions)

users_seen : (logs : List Changes) (sessions : List Session) → map (λ (s : OpenSession). s.session.user) (map (with_changes logs) sessions) ≡ map (λ (s : Session). s.user) sessions
users_seen logs [] = refl
users_seen logs (s ∷ sessions) = ap (λ (us : List (List ℕ)). s.user ∷ us) (users_seen logs sessions)

-- the sessions once the client's transaction is committed, where it is
abbrev pub seats_at : Bool → ClientNo → List OpenSession → List OpenSession
seats_at b client sessions = if b then map (settled client) sessions else sessions

-- the users of the sessions are the same then
pub users_at : (b : Bool) (client : ClientNo) (logs : List Changes) (sessions : List Session) → map (λ (s : Session). s.user) sessions ≡ map (λ (s : OpenSession). s.session.user) (seats_at b client (map (with_changes logs) sessions))
users_at true client logs sessions = sym (users_settled client logs sessions)
users_at false client logs sessions = sym (users_seen logs sessions)

-- busy tables session by session are those of all sessions
pub busy_all : (b : Bool) (client : ClientNo) (logs : List Changes) (tables : List TableName) (sessions : List Session)
    → flat_map (busy_by logs b client tables) sessions ≡ flat_map (busy_of tables) (seats_at b client (map (with_changes logs) sessions))
busy_all true client logs tables [] = refl
busy_all false client logs tables [] = refl
busy_all true client logs tables (s ∷ sessions) = ap (λ (rest : List (TableName × ClientNo)). busy_by logs true client tables s ++ rest) (busy_all true client logs tables sessions)
busy_all false client logs tables (s ∷ sessions) = ap (λ (rest : List (TableName × ClientNo)). busy_by logs false client tables s ++ rest) (busy_all false client logs tables sessions)

-- ---- tables in which nobody has a change

none_named : (tables : List TableName) → filter (λ table. names_table table []) tables ≡ []
none_named [] = refl
none_named (table ∷ tables) = none_named tables

quiet_at : (b : Bool) (tables : List TableName) (changes : List RowChange) → filter (λ table. names_table table changes) tables ≡ [] → filter (λ table. names_table table (if b then [] else changes)) tables ≡ []
quiet_at true tables changes is = none_named tables
quiet_at false tables changes is = is

-- where nobody has a change in one of the tables, none is busy
pub none_busy : (contents : Contents) (commits : Bool) (client : ClientNo) (tables : List TableName) (sessions : List Session)
    → ((q : ClientNo) → filter (λ table. names_table table (open_of (desk_of contents) q)) tables ≡ []) → [] ≡ flat_map (busy_by contents.logs commits client tables) sessions
none_busy contents commits client tables [] quiet = refl
none_busy contents commits client tables (s ∷ sessions) quiet =
    let changes = changes_of s.client contents.logs in
    let listed : filter (λ table. names_table table changes) tables ≡ [] = ap (λ (cs : List RowChange). filter (λ table. names_table table cs) tables) (sym (open_is contents s.client)) ∙ quiet s.client in
    let here : busy_by contents.logs commits client tables s ≡ [] =
    busy_is contents.logs commits client tables s ∙ ap (λ (ts : List TableName). map (λ table. (table, s.client)) ts) (quiet_at (commits && (s.client.0 == client.0)) tables changes listed) in
    sym (ap₂ (λ (x xs : List (TableName × ClientNo)). x ++ xs) here (sym (none_busy contents commits client tables sessions quiet)))

abbrev pub made : List (List ℕ) → List (TableName × ClientNo) → Busy
made connected tables = record { connected = connected; tables = tables }

-- what sessions hold is that of the state in which the statement is decided
pub busy_state : (b : Bool) (m : State) (client : ClientNo) (connected : List (List ℕ)) (tables : List TableName) (busy : List (TableName × ClientNo)) → connected ≡ map (λ (s : OpenSession). s.session.user) (seats_at b client m.sessions)
    → busy ≡ flat_map (busy_of tables) (seats_at b client m.sessions)
    → made connected busy ≡ made (map (λ (s : OpenSession). s.session.user) (decided b m client).sessions) (flat_map (busy_of tables) (decided b m client).sessions)
busy_state true m client connected tables busy users is = ap₂ made users is
busy_state false m client connected tables busy users is = ap₂ made users is
