-- What is seen of a store, and what is so of it between two calls.
use Rattle.std.specs.Prelude.{◌≡◌, ℕ, true, false, List, Option}
use Rattle.au_io.specs.Disk.{Meaning}
use Rattle.au_journal.specs.declared.seat.Seat.{Seat}
use Rattle.au_entries.specs.declared.kept.Kept.{Kept}
use Rattle.au_pindex.specs.declared.index.Index.{Index}
use Rattle.au_txn.specs.Logs.{Changes}
use Rattle.au_step.specs.Replaying.{EndsWell}
use Rattle.au_engine.specs.Reserved.{Reserved}
use Rattle.au_step.specs.State.{State}
use Rattle.au_store.specs.Recovery.{ReplayedTo}
use Rattle.au_store.specs.Doubts.{IsAtRest}
use Rattle.au_journal.specs.Standing.{IsSettledOn}

-- the state; each client's changes of rows that aren't committed; for how many more rows and tables, records and sessions
-- there is room; the index of the audit policies, where it is made; the disk and where the journal stands on it; the clock, and the last reading that it gave
pub record Stored (D C : Type 0) : Type 0 where
  pub state : State
  pub logs : List Changes
  pub spare : ℕ
  pub room : ℕ
  pub seats : ℕ
  pub index : Option Index
  pub disk : D
  pub seat : Seat
  pub clock : C
  pub reading : ℕ

-- the state, the changes and the room, as the engine has them
abbrev pub reserved_of : {D C : Type 0} → Stored D C → Reserved
reserved_of store = record { state = store.state; logs = store.logs; spare = store.spare; room = store.room; seats = store.seats; index = store.index }

-- no step is in doubt: all that a crash may leave recovers to what is kept
abbrev pub IsKeptOn : Kept → Meaning → Seat → Type 0
IsKeptOn kept m seat = IsSettledOn (ReplayedTo kept) m seat

-- The journal was walked to its end, and a gate stands there. Where the disk tells what it holds, it stands for what is
-- kept, and perhaps for what is kept after the one step that is in doubt. SYS is a user.
pub record IsSound (told : Type 0) (m : Meaning) (seat : Seat) (state : State) : Type 0 where
  pub ended : seat.ended ≡ true
  pub gated : seat.bare ≡ false
  pub ends : EndsWell state.kept
  pub stands : told → IsAtRest state m seat
