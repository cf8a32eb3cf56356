-- What a step that is worked out, and one that is prepared, make of a state.
use Rattle.std.specs.Prelude.{◌≡◌, ◌≢◌, ◌<◌, ◌≤◌, ◌+◌, ⊤, ℕ, Bool, false, ◌==◌, if◌then◌else◌, IsTrue, List, [], ◌∷◌, ◌++◌, length, map, take, drop, IfSome, IsSome, Option, None, Some, is_some}
use Rattle.std.specs.List.{filter_map, list_any}
use Rattle.au_audit.specs.Conditions.{forgetting}
use Rattle.au_base.specs.declared.cell.Cell.{Cell}
use Rattle.au_base.specs.declared.numbers.ClientNo.{ClientNo}
use Rattle.au_base.specs.declared.numbers.Stamp.{Stamp}
use Rattle.au_catalog.specs.Settling.{catalog_of}
use Rattle.au_entries.specs.declared.change.Change.{Change}
use Rattle.au_entries.specs.Frames.{after_parts}
use Rattle.au_kept.specs.Keeping.{desk_of}
use Rattle.au_kept.specs.Staging.{CanSettle, IsLogged, IsStaged}
use Rattle.au_kept.specs.Staging as keepings
use Rattle.au_pindex.specs.declared.staged.StagedIndex.{StagedIndex}
use Rattle.au_pindex.specs.Changing.{changes_policies}
use Rattle.au_pindex.specs.Staging as indexes
use Rattle.au_replay.specs.Reading.{conditions}
use Rattle.au_step.specs.Abandoning.{sessions_without}
use Rattle.au_step.specs.Lawful.{IsLawfulState}
use Rattle.au_step.specs.Sessions.{HaveOneEach}
use Rattle.au_step.specs.Sound.{HoldsOfKeepings}
use Rattle.au_step.specs.State.{OpenSession, State}
use Rattle.au_step.specs.Step.{Logged, committed, counting, opened, session_of}
use Rattle.au_engine.specs.declared.outcome.Outcome.{Outcome}
use Rattle.au_engine.specs.declared.outcome.RowsChange.{RowsChange}
use Rattle.au_engine.specs.declared.outcome.RowsChange.TheVariants as rows
use Rattle.au_engine.specs.declared.outcome.SessionChange.{SessionChange}
use Rattle.au_engine.specs.declared.outcome.SessionChange.TheVariants.{Nothing, Begins, Counts, Ends}
use Rattle.au_engine.specs.declared.prepared.Prepared.{Prepared}
use Rattle.au_engine.specs.Reserved.{Reserved, contents_of}
use Rattle.au_txn.specs.declared.change.RowChange.{RowChange}
use Rattle.au_txn.specs.Desks.{Contents as Desk, spare_of}
use Rattle.au_writing.specs.Written.{CanBeWritten}

-- ---- sessions and their transactions

-- what becomes of a transaction
abbrev pub transaction_left : RowsChange → List RowChange → List RowChange
transaction_left rows.Nothing transaction = transaction
transaction_left rows.Commits transaction = []
transaction_left (rows.Writes changes contents) transaction = transaction ++ changes
transaction_left rows.Undoes transaction = []

-- The client's session has these counts and results, and this becomes of its transaction; any other session forgets the
-- results of the policies alone.
abbrev pub session_left : ClientNo → ℕ → ℕ → List (List ℕ × Bool) → List (List ℕ) → RowsChange → OpenSession → OpenSession
session_left client statements entries results forgets change seat =
    if seat.session.client.0 == client.0
    then record { session = counting statements entries results seat.session; transaction = transaction_left change seat.transaction }
    else record seat { session = record seat.session { results = forgetting forgets seat.session.results } }

-- what becomes of the sessions
abbrev pub sessions_after : SessionChange → List OpenSession → List OpenSession
sessions_after Nothing sessions = sessions
sessions_after (Begins session) sessions = sessions ++ opened session ∷ []
sessions_after (Counts client statements entries results forgets change) sessions = map (session_left client statements entries results forgets change) sessions
sessions_after (Ends client) sessions = sessions_without client sessions

-- how many sessions the instance has drawn then
abbrev pub drawn_after : SessionChange → ℕ → ℕ
drawn_after (Begins session) drawn = drawn + 1
drawn_after _ drawn = drawn

-- the instance's results then: these, or those that it had where the step leaves them
abbrev pub instance_after : Option (List (List ℕ × Bool)) → List (List ℕ × Bool) → List (List ℕ × Bool)
instance_after None results = results
instance_after (Some others) results = others

-- the client who commits, where one does
abbrev pub commits_by : ClientNo → RowsChange → Option ClientNo
commits_by client rows.Commits = Some client
commits_by client _ = None

abbrev pub commits_of : SessionChange → Option ClientNo
commits_of (Counts client statements entries results forgets change) = commits_by client change
commits_of _ = None

-- the state once that client's transaction is committed
abbrev pub committed_by : Option ClientNo → State → State
committed_by None m = m
committed_by (Some client) m = committed client m

-- The state after a step that leaves this to be kept, with this last stamp, this change of the sessions, and these results of
-- the instance.
abbrev pub state_after : SessionChange → Option (List (List ℕ × Bool)) → Logged → Stamp → State → State
state_after change results logged last m = record {
  kept = after_parts conditions.tree last logged.purge logged.changes logged.records (committed_by logged.commits m).kept;
  sessions = sessions_after change m.sessions;
  drawn = drawn_after change m.drawn;
  results = instance_after results m.results;
}

-- what a step that is worked out leaves to be kept: so many of its changes, in front, are those of the rows that it commits
abbrev pub logged_by : Outcome → Logged
logged_by outcome = record {
  commits = commits_of outcome.sessions;
  rows = take outcome.finals outcome.changes;
  changes = drop outcome.finals outcome.changes;
  purge = outcome.purge;
  records = outcome.records;
}

-- the state that it makes of another
abbrev pub made_of : Outcome → State → State
made_of outcome m = state_after outcome.sessions outcome.results (logged_by outcome) outcome.last m

-- what the prepared step leaves to be kept
abbrev pub logged_of : Prepared → Logged
logged_of prepared = record {
  commits = commits_of prepared.sessions;
  rows = take prepared.finals prepared.changes;
  changes = drop prepared.finals prepared.changes;
  purge = prepared.purge;
  records = prepared.records;
}

-- the state that it makes of another
abbrev pub after : Prepared → State → State
after prepared m = state_after prepared.sessions prepared.results (logged_of prepared) prepared.last m

-- ---- what can be made

-- What the client writes can be written, over each keeping of the state. These are the new contents of the changes that have
-- one, in order.
pub record CanGoOn (m : State) (client : ClientNo) (changes : List RowChange) (cells : List (List Cell)) : Type 0 where
  pub can : HoldsOfKeepings m (λ contents. CanBeWritten contents.kept (desk_of contents) client changes)
  pub cells_are : cells ≡ filter_map (λ change. change.new) changes

-- so where something is written
abbrev pub CanWriteIn : State → ClientNo → RowsChange → Type 0
CanWriteIn m client (rows.Writes changes contents) = CanGoOn m client changes (map (λ cells. cells.items) contents.items)
CanWriteIn m client _ = ⊤

-- the client has a session in which this can be written
pub record CanCount (m : State) (client : ClientNo) (change : RowsChange) : Type 0 where
  pub some : client.0 ≢ 0
  pub stands : IsTrue (is_some (session_of m.sessions client))
  pub rows : CanWriteIn m client change

abbrev pub CanChange : State → SessionChange → Type 0
CanChange m (Counts client statements entries results forgets change) = CanCount m client change
CanChange m _ = ⊤

-- nothing else of what is kept is changed where a transaction goes on, is undone or is lost
abbrev pub IsAlone : RowsChange → List Change → Type 0
IsAlone (rows.Writes changes contents) others = others ≡ []
IsAlone rows.Undoes others = others ≡ []
IsAlone _ others = ⊤

abbrev pub LeavesKept : SessionChange → List Change → Type 0
LeavesKept (Counts client statements entries results forgets change) others = IsAlone change others
LeavesKept (Ends client) others = others ≡ []
LeavesKept _ others = ⊤

-- there is room for what the client writes
abbrev pub HasSpareFor : RowsChange → ClientNo → Desk → Type 0
HasSpareFor (rows.Writes changes contents) client desk = length changes ≤ spare_of client desk
HasSpareFor _ client desk = ⊤

abbrev pub HasSpare : SessionChange → Desk → Type 0
HasSpare (Counts client statements entries results forgets change) desk = HasSpareFor change client desk
HasSpare _ desk = ⊤

-- These changes are ready to be made of the index of the audit policies, where they are one, or none of them is of policies.
pub record IsIndexReady (changes : List Change) (ready : Option StagedIndex) : Type 0 where
  pub one : length changes ≡ 1 → IsSome ready
  pub others : list_any changes_policies changes ≡ false → IsSome ready

-- What is ready are the step's changes, and it fits what is kept, which can be settled so: what is kept then is what a frame
-- with all of its changes makes of it. What its client writes can be written. There is room for all of it, and a seat for a
-- session that begins. What is ready for the index of the audit policies fits it, and leads to the catalogue afterwards. The
-- state is lawful then, and no client has two sessions.
pub record Fits (prepared : Prepared) (engine : Reserved) : Type 0 where
  pub staged : IsStaged (logged_of prepared).changes prepared.staged
  pub fits : keepings.Fits prepared.staged (contents_of engine)
  pub settles : CanSettle (contents_of engine) (commits_of prepared.sessions) (logged_of prepared).changes prepared.records prepared.last
  pub logged : IsLogged (commits_of prepared.sessions) (contents_of engine) (logged_of prepared).changes prepared.changes
  pub leaves : (after prepared engine.state).kept ≡ after_parts conditions.tree prepared.last prepared.purge prepared.changes prepared.records engine.state.kept
  pub rows : CanChange engine.state prepared.sessions
  pub alone : LeavesKept prepared.sessions (logged_of prepared).changes
  pub spare : HasSpare prepared.sessions (desk_of (contents_of engine))
  pub room : length prepared.records ≤ engine.room
  pub seat : 0 < engine.seats
  pub index : IfSome engine.index (λ index. IfSome prepared.index (λ staged. indexes.Fits staged index))
  pub leads : IfSome prepared.index (indexes.IsStaged (catalog_of engine.state.kept) (catalog_of (after prepared engine.state).kept))
  pub lawful : IsLawfulState (after prepared engine.state)
  pub apart : HaveOneEach (sessions_after prepared.sessions engine.state.sessions)
