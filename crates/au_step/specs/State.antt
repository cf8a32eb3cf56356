-- The whole state, and the stamps of its events.
use Rattle.std.specs.Prelude.{◌≡◌, ℕ, ◌+◌, min, max, Bool, List, []}
use Rattle.au_base.specs.Limits.{LAST_MOMENT}
use Rattle.au_entries.specs.declared.kept.Kept.{Kept}
use Rattle.au_step.specs.declared.session.Session.{Session}
use Rattle.au_txn.specs.declared.change.RowChange.{RowChange}

-- A client that is logged on: its session, and its transaction, which is the changes of rows that it has made and not
-- committed, in their order.
pub record OpenSession : Type 0 where
  pub session : Session
  pub transaction : List RowChange

-- what outlives the instance, the sessions, how many sessions the instance has drawn, and the results that are kept of
-- conditions that are evaluated once an instance
pub record State : Type 0 where
  pub kept : Kept
  pub sessions : List OpenSession
  pub drawn : ℕ
  pub results : List (List ℕ × Bool)

-- a reading of the clock past the last moment of the year 9999 counts as that moment
abbrev pub moment_of : ℕ → ℕ
moment_of reading = min reading LAST_MOMENT

-- the stamp of an event is the larger of the clock's reading and the last stamp
abbrev pub stamp_of : State → ℕ → ℕ
stamp_of m reading = max (moment_of reading) m.kept.last.0

-- the number is the stamp of an event at some reading
abbrev pub IsStampOf : State → ℕ → Type 0
IsStampOf m stamp = (reading : ℕ) × (stamp ≡ stamp_of m reading)

-- the next instance over what is kept, which begins at this reading without sessions and results
abbrev pub start : Kept → ℕ → State
start kept reading = record {
  kept = record kept { last = record { 0 = max (moment_of reading) kept.last.0 }; instance = kept.instance + 1 };
  sessions = [];
  drawn = 0;
  results = [];
}

-- a state in which this is kept and no instance runs: it has no sessions and no results
abbrev pub resting : Kept → State
resting kept = record { kept = kept; sessions = []; drawn = 0; results = [] }
