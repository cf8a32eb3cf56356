-- What opening a store does, by what it answers.
use Rattle.std.specs.Prelude.{◌≡◌, ◌⊎◌, ◌≤◌, ◌<◌, ⊤, ℕ, ◌+◌, true, List, length, Option}
use Rattle.au_base.specs.Limits.{INSTANCES}
use Rattle.au_entries.specs.declared.kept.Kept.{Kept}
use Rattle.au_io.specs.Areas.{Areas}
use Rattle.au_io.specs.Disk.{Meaning, Stays}
use Rattle.au_io.specs.Faults.{HasRisen}
use Rattle.au_io.specs.Moments.{LeavesSince}
use Rattle.au_io.specs.Time.{Reads, Ticking}
use Rattle.au_journal.specs.declared.seat.Seat.{Seat}
use Rattle.au_journal.specs.Frames.{Stands, front}
use Rattle.au_journal.specs.Images.{In}
use Rattle.au_journal.specs.Lengths.{gate_bytes}
use Rattle.au_journal.specs.Walk.{IsDamaged, IsUnformatted}
use Rattle.rec_codec.specs.Frames.{framed}
use Rattle.au_step.specs.Returning.{start_frame}
use Rattle.au_step.specs.State.{State, start}
use Rattle.au_store.specs.declared.open_fault.OpenFault.{OpenFault}
use Rattle.au_store.specs.declared.open_fault.OpenFault.TheVariants as fault
use Rattle.au_store.specs.Opened.{IsBare, IsFrameDamage}
use Rattle.au_store.specs.Recovery.{ReadsAs, RecoversToEither, Replayed}

-- what is said of the areas that couldn't be opened
abbrev pub OpenSays : Areas → OpenFault → Type 0
OpenSays all fault.Disk = ⊤
OpenSays all fault.Unformatted = IsUnformatted all
OpenSays all (fault.Damaged area at) = IsDamaged all area at ⊎ IsFrameDamage all area at
OpenSays all fault.Worn = (kept : Kept) × ReadsAs kept all × (kept.instance ≡ INSTANCES)
OpenSays all fault.Memory = ⊤

-- the count of faults rose in the call where it answers that the disk failed, and nowhere else
abbrev pub OpenCause : OpenFault → ℕ → ℕ → Type 0
OpenCause fault.Disk before now = (before ≤ now) × HasRisen before now
OpenCause fault.Unformatted before now = now ≡ before
OpenCause (fault.Damaged area at) before now = now ≡ before
OpenCause fault.Worn before now = now ≡ before
OpenCause fault.Memory before now = now ≡ before

-- no image ends where its bodies end
abbrev pub NoneIsBare : Meaning → Type 0
NoneIsBare m = (c : Areas) → m.images c → IsBare c → ⊥

-- at any moment a crash leaves an image from before, or one that recovers to what the disk reads as, or to the start over it
abbrev pub OpenLeaves : Meaning → ℕ → Areas → Type 0
OpenLeaves old reading all = old.images all ⊎ ((kept : Kept) × ReadsAs kept old.reads × RecoversToEither kept (start kept reading).kept all)

-- the clock was read once, or not
abbrev pub IsReadOnceAtMost : {C : Type 0} → (C → Option Ticking) → (clock clocked : C) → Type 0
IsReadOnceAtMost ticking clock clocked = (clocked ≡ clock) ⊎ ((reading : ℕ) × Reads (ticking clock) (ticking clocked) reading)

-- What is left where no store was opened. Where the bytes alone say why, nothing was done; where there was no memory, nothing
-- was written; and the disk failed before the clock was read, or when it gave this reading, at which a crash leaves what an
-- opening does
abbrev pub OpensInVain : {D C : Type 0} (told : Type 0) (meaning : D → Meaning) (ticking : C → Option Ticking) (disk last : D) (clock clocked : C) → OpenFault → Type 0
OpensInVain told meaning ticking disk last clock clocked fault.Unformatted = (clocked ≡ clock) × Stays (meaning disk) (meaning last)
OpensInVain told meaning ticking disk last clock clocked (fault.Damaged area at) = (clocked ≡ clock) × Stays (meaning disk) (meaning last)
OpensInVain told meaning ticking disk last clock clocked fault.Worn = (clocked ≡ clock) × Stays (meaning disk) (meaning last)
OpensInVain told meaning ticking disk last clock clocked fault.Memory = IsReadOnceAtMost ticking clock clocked × Stays (meaning disk) (meaning last)
OpensInVain told meaning ticking disk last clock clocked fault.Disk =
    ((clocked ≡ clock) × Stays (meaning disk) (meaning last))
    ⊎ ((reading : ℕ) × Reads (ticking clock) (ticking clocked) reading
    × (told → NoneIsBare (meaning disk) → LeavesSince (OpenLeaves (meaning disk) reading) (meaning disk) (meaning last)))

-- at most the frame with which an instance begins is written, and two gates
abbrev pub OpenCosts : ℕ → ℕ → Type 0
OpenCosts before now = (kept : Kept) × (reading : ℕ) × (now ≤ before + length (framed (start_frame kept reading)) + gate_bytes true)

-- the state is that with which an instance begins at this reading, over something that is kept: no session, and no kept result
abbrev pub IsStarted : ℕ → State → Type 0
IsStarted reading m = (kept : Kept) × (kept.instance < INSTANCES) × (m ≡ start kept reading)

-- the state is that of the next instance, at this reading, over what the areas read as
pub record IsOpened (all : Areas) (reading : ℕ) (m : State) : Type 0 where
  pub kept : Kept
  pub reads : ReadsAs kept all
  pub fresh : kept.instance < INSTANCES
  pub begins : m ≡ start kept reading

-- the journal goes on in the area that was selected, under its limit, behind the bodies that stood there and the frame with
-- which this instance begins
pub record IsSeated (all : Areas) (reading : ℕ) (seat : Seat) : Type 0 where
  pub kept : Kept
  pub bodies : List (List ℕ)
  pub held : In seat.area (Stands seat.limit bodies) all
  pub so : Replayed bodies kept
  pub used : seat.used ≡ length (front seat.limit bodies) + length (framed (start_frame kept reading))

-- the bytes alone are why
abbrev pub IsOfBytes : OpenFault → Type 0
IsOfBytes fault.Disk = ⊥
IsOfBytes fault.Unformatted = ⊤
IsOfBytes (fault.Damaged area at) = ⊤
IsOfBytes fault.Worn = ⊤
IsOfBytes fault.Memory = ⊥
