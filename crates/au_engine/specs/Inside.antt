-- What the code holds midway. No promise of the crate rests on these.
use Rattle.std.specs.Prelude.{◌≡◌, ◌≢◌, ◌≤◌, ◌==◌, ⊤, ℕ, Bool, false, if◌then◌else◌, List, [], length, map, Option}
use Rattle.std.specs.List.{filter_map, flat_map}
use Rattle.au_base.specs.declared.cell.Cell.{Cell}
use Rattle.au_base.specs.declared.numbers.ClientNo.{ClientNo}
use Rattle.au_base.specs.declared.table.TableName.{TableName}
use Rattle.au_entries.specs.declared.change.Change.{Change}
use Rattle.au_kept.specs.Keeping.{Contents, desk_of}
use Rattle.au_kept.specs.Staging.{CanSettle, IsStaged}
use Rattle.au_kept.specs.Staging as keepings
use Rattle.au_step.specs.Lawful.{IsLawfulSession}
use Rattle.au_step.specs.State.{OpenSession, State}
use Rattle.au_step.specs.Step.{busy_of, session_of, settled}
use Rattle.au_step.specs.declared.session.Session.{Session}
use Rattle.au_txn.specs.declared.change.RowChange.{RowChange}
use Rattle.au_txn.specs.Desks.{spare_of}
use Rattle.au_txn.specs.Logs.{Changes}
use Rattle.au_writing.specs.Written.{CanBeWritten}
use Rattle.au_engine.specs.declared.outcome.Outcome.{Outcome}
use Rattle.au_engine.specs.declared.outcome.RowsChange.{RowsChange}
use Rattle.au_engine.specs.declared.outcome.RowsChange.TheVariants as rows
use Rattle.au_engine.specs.declared.outcome.SessionChange.{SessionChange}
use Rattle.au_engine.specs.declared.outcome.SessionChange.TheVariants.{Nothing, Begins, Counts, Ends}
use Rattle.au_engine.specs.declared.settling.KeptChange.{KeptChange}
use Rattle.au_engine.specs.Prepared.{CanChange, LeavesKept, logged_by, transaction_left}
use Rattle.au_engine.specs.Reserved.{with_changes}

-- ---- sessions

-- the session is that of its client in the state, and is lawful
pub record IsOwn (m : State) (session : Session) : Type 0 where
  pub lawful : IsLawfulSession m.kept session
  pub some : session.client.0 ≢ 0
  pub seat : OpenSession
  pub found : session_of m.sessions session.client ≡ Option.Some seat
  pub is : seat.session ≡ session

-- ---- rows that are written

-- these changes are written, with the new contents of those that have one, where the transaction is neither committed nor undone
pub record IsWritten (commits undoes : Bool) (changes written : List RowChange) (cells : List (List Cell)) : Type 0 where
  pub stays : commits ≡ false
  pub goes_on : undoes ≡ false
  pub same : written ≡ changes
  pub cells_are : cells ≡ filter_map (λ change. change.new) written

abbrev pub AreWritten : Bool → Bool → List RowChange → RowsChange → Type 0
AreWritten commits undoes changes (rows.Writes written contents) = IsWritten commits undoes changes written (map (λ cells. cells.items) contents.items)
AreWritten commits undoes changes _ = ⊤

-- the step that is worked out can be made
pub record CanBeMade (m : State) (outcome : Outcome) : Type 0 where
  pub rows : CanChange m outcome.sessions
  pub alone : LeavesKept outcome.sessions (logged_by outcome).changes

-- ---- busy tables

-- those of the tables in which the session has changes, where those of one client may be committed before
abbrev pub busy_by : List Changes → Bool → ClientNo → List TableName → Session → List (TableName × ClientNo)
busy_by logs commits client tables session = busy_of tables (if commits then settled client (with_changes logs session) else with_changes logs session)

-- ---- settling

-- what is ready fits what is kept, and can be settled as changes of which this is so
pub record CanKeep (commits : Option ClientNo) (Is : List Change → Type 0) (contents : Contents) (kept : KeptChange) : Type 0 where
  pub changes : List Change
  pub staged : IsStaged changes kept.staged
  pub is_so : Is changes
  pub settles : CanSettle contents commits changes kept.records.items kept.last
  pub fits : keepings.Fits kept.staged contents
  pub room : length kept.records.items ≤ contents.room

-- the client can write these changes now
pub record CanWrite (contents : Contents) (client : ClientNo) (changes : List RowChange) (cells : List (List Cell)) : Type 0 where
  pub some : client.0 ≢ 0
  pub can : CanBeWritten contents.kept (desk_of contents) client changes
  pub spare : length changes ≤ spare_of client (desk_of contents)
  pub contents_are : cells ≡ filter_map (λ change. change.new) changes

abbrev pub CanWriteRows : RowsChange → ClientNo → Contents → Type 0
CanWriteRows (rows.Writes changes contents) client kept = CanWrite kept client changes (map (λ cells. cells.items) contents.items)
CanWriteRows _ client kept = ⊤

abbrev pub CanWriteNow : SessionChange → Contents → Type 0
CanWriteNow (Counts client statements entries results forgets change) kept = CanWriteRows change client kept
CanWriteNow _ kept = ⊤

-- what becomes of a client's changes of rows by what becomes of those of another
abbrev pub rows_left : ClientNo → RowsChange → ClientNo → List RowChange → List RowChange
rows_left client change other transaction = if other.0 == client.0 then transaction_left change transaction else transaction

-- what becomes of a client's changes of rows
abbrev pub changes_left : SessionChange → ClientNo → List RowChange → List RowChange
changes_left (Counts client statements entries results forgets change) other transaction = rows_left client change other transaction
changes_left (Ends client) other transaction = if other.0 == client.0 then [] else transaction
changes_left _ other transaction = transaction
