-- What `serve` does, from the opening of the store on.
use Rattle.std.specs.Prelude.{◌≡◌, ◌≢◌, ◌⊎◌, ℕ, List, [], ◌∷◌, ◌++◌, codes, Option, None, Some}
use Rattle.std.proofs.Common.{zero, suc}
use Rattle.au_io.specs.Disk.{Meaning}
use Rattle.au_io.specs.Moments.{Leaves, LeavesSince}
use Rattle.au_io.specs.Time.{Reads}
use Rattle.au_io.specs.Visits.{Visits}
use Rattle.au_journal.specs.declared.doubt.Doubt.TheVariants.{Settled}
use Rattle.au_server.specs.declared.end.End.{End}
use Rattle.au_server.specs.declared.end.End.TheVariants as ending
use Rattle.au_server.specs.Ends.{EndsTo}
use Rattle.au_store.specs.declared.entry.Entry.{Entry}
use Rattle.au_store.specs.History.{ListLeaves, StandsFor, first_of}
use Rattle.au_store.specs.Recovery.{RecoversTo}
use Rattle.au_store.specs.Starting.{IsOpened, IsSeated, IsStarted, NoneIsBare, OpenLeaves}
use Rattle.au_store.specs.Stored.{Stored}
use Rattle.au_main.specs.declared.status.Status.{Status}
use Rattle.au_main.specs.declared.status.Status.TheVariants.{Done, LobbyFault, Memory}
use Rattle.au_main.specs.Means.{Means}

-- a store was opened on the disk at the clock's next reading, as the next instance over what the disk recovers to, in the
-- area that is selected there, behind what stands there and under its limit; nothing is in doubt
pub record IsBegun {D C : Type 0} (means : Means D C) (opened : Stored D C) (disk : D) (clock : C) : Type 0 where
  pub starts : IsStarted opened.reading opened.state
  pub begins : means.told → IsOpened (means.meaning disk).reads opened.reading opened.state
  pub seated : means.told → IsSeated (means.meaning disk).reads opened.reading opened.seat
  pub read : Reads (means.ticking clock) (means.ticking opened.clock) opened.reading
  pub settled : opened.seat.doubt ≡ Settled
  pub well : means.faults opened.disk ≡ means.faults disk

-- The store came out of a turn, and stands for a legal list that begins with the store as it was opened. What a crash leaves
-- recovers to what is kept, or to what is kept after the step that the list leaves in doubt. Where nothing is in doubt, it
-- recovers to what is kept.
pub record CameOut {D C : Type 0} (means : Means D C) (opened : Stored D C) (last : D) (clocked : C) : Type 0 where
  pub closed : Stored D C
  pub entries : List Entry
  pub stands : StandsFor means.told means.meaning means.faults closed (first_of means.faults opened ++ entries)
  pub at_last : means.told → Leaves (ListLeaves (first_of means.faults opened ++ entries) closed.state.kept) (means.meaning last)
  pub settled : means.told → closed.seat.doubt ≡ Settled → Leaves (RecoversTo closed.state.kept) (means.meaning last)
  pub disk_is : closed.disk ≡ last
  pub clock_is : closed.clock ≡ clocked

-- No turn was opened, and the store is as it was opened: at any moment each image is one that the opening leaves, where no
-- image at entry ends where its bodies end, and at last each recovers to what is kept.
pub record WasUnasked {D C : Type 0} (means : Means D C) (opened : Stored D C) (disk last : D) (clocked : C) : Type 0 where
  pub any_moment : means.told → NoneIsBare (means.meaning disk) → LeavesSince (OpenLeaves (means.meaning disk) opened.reading) (means.meaning disk) (means.meaning last)
  pub at_last : means.told → Leaves (RecoversTo opened.state.kept) (means.meaning last)
  pub disk_is : opened.disk ≡ last
  pub clock_is : opened.clock ≡ clocked

-- the status of each end
abbrev pub status_at : End → Status
status_at ending.Done = Done
status_at ending.LobbyFault = LobbyFault
status_at ending.Memory = Memory

-- a store was opened and served, and disk, clock and lobby came back; a store that nobody could ask isn't done
pub record HasServed {D C : Type 0} (means : Means D C) (status : Status) (asked : Option ℕ) (disk last : D) (clock clocked : C) (old new : Option Visits) (before now : ℕ) : Type 0 where
  pub opened : Stored D C
  pub begun : IsBegun means opened disk clock
  pub end : End
  pub went : CameOut means opened last clocked ⊎ (WasUnasked means opened disk last clocked × (end ≢ ending.Done))
  pub ends : EndsTo end asked old new before now
  pub status_is : status ≡ status_at end

-- 0 connections stand for all that come
abbrev pub asked_of : ℕ → Option ℕ
asked_of zero = None
asked_of (suc n) = Some (suc n)

-- the first word is `serve`
abbrev pub SaysServe : List (List ℕ) → Type 0
SaysServe [] = ⊥
SaysServe (word ∷ words) = word ≡ codes "serve"
