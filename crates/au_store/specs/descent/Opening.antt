-- How a store is opened: its bodies are replayed one after another, and the next instance begins over them.
use Rattle.std.specs.Prelude.{◌≡◌, ⊤, ℕ, List, Option}
use Rattle.au_base.specs.Limits.{INSTANCES}
use Rattle.au_entries.specs.declared.kept.Kept.{Kept}
use Rattle.au_io.specs.Disk.{Meaning}
use Rattle.au_io.specs.Moments.{LeavesSince}
use Rattle.au_io.specs.Time.{Reads, Ticking}
use Rattle.au_journal.specs.declared.seat.Seat.{Seat}
use Rattle.au_journal.specs.Seats.{IsSettled}
use Rattle.au_journal.specs.Walk.{IsWalked}
use Rattle.au_step.specs.State.{start}
use Rattle.au_store.specs.declared.open_fault.OpenFault.{OpenFault}
use Rattle.au_store.specs.declared.open_fault.OpenFault.TheVariants as fault
use Rattle.au_store.specs.Recovery.{RecoversToEither, Replayed}
use Rattle.au_store.specs.Starting.{IsReadOnceAtMost}

-- the walk is behind bodies that are replayed to what is kept
pub record IsTaken (m : Meaning) (seat : Seat) (kept : Kept) : Type 0 where
  pub bodies : List (List ℕ)
  pub walked : IsWalked m seat bodies
  pub so : Replayed bodies kept

-- the walk has ended, and the journal stands for bodies that are replayed to what is kept
pub record IsRead (m : Meaning) (seat : Seat) (kept : Kept) : Type 0 where
  pub bodies : List (List ℕ)
  pub settled : IsSettled m seat bodies
  pub so : Replayed bodies kept

-- what is left where no instance could begin over what was replayed, where a gate stands behind that
abbrev pub BeginsInVain : {D C : Type 0} (told : Type 0) (meaning : D → Meaning) (ticking : C → Option Ticking) (kept : Kept) (gated : Type 0) (disk last : D) (clock clocked : C) → OpenFault → Type 0
BeginsInVain told meaning ticking kept gated disk last clock clocked fault.Unformatted = (clocked ≡ clock) × (last ≡ disk)
BeginsInVain told meaning ticking kept gated disk last clock clocked (fault.Damaged area at) = (clocked ≡ clock) × (last ≡ disk)
BeginsInVain told meaning ticking kept gated disk last clock clocked fault.Worn = (clocked ≡ clock) × (last ≡ disk)
BeginsInVain told meaning ticking kept gated disk last clock clocked fault.Memory = IsReadOnceAtMost ticking clock clocked × (last ≡ disk)
BeginsInVain told meaning ticking kept gated disk last clock clocked fault.Disk =
    (reading : ℕ) × Reads (ticking clock) (ticking clocked) reading
    × (told → gated → LeavesSince (RecoversToEither kept (start kept reading).kept) (meaning disk) (meaning last))

-- an instance that can't begin over what is kept, for want of a number where that is said
abbrev pub StartSays : Kept → OpenFault → Type 0
StartSays kept fault.Disk = ⊤
StartSays kept fault.Unformatted = ⊥
StartSays kept (fault.Damaged area at) = ⊥
StartSays kept fault.Worn = kept.instance ≡ INSTANCES
StartSays kept fault.Memory = ⊤
