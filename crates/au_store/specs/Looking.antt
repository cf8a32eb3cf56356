-- What looking at a store says, by what it answers.
use Rattle.std.specs.Prelude.{◌≡◌, ◌≤◌, ℕ, length, Result, Ok, Err}
use Rattle.au_entries.specs.declared.kept.Kept.{Kept}
use Rattle.au_io.specs.Areas.{Areas}
use Rattle.au_io.specs.Faults.{HasRisen}
use Rattle.au_journal.specs.Frames.{front}
use Rattle.au_journal.specs.declared.mount_fault.MountFault.{MountFault}
use Rattle.au_journal.specs.declared.mount_fault.MountFault.TheVariants as mount
use Rattle.au_store.specs.declared.look_fault.LookFault.{LookFault}
use Rattle.au_store.specs.declared.look_fault.LookFault.TheVariants as look
use Rattle.au_store.specs.declared.open_fault.OpenFault.{OpenFault}
use Rattle.au_store.specs.declared.open_fault.OpenFault.TheVariants as fault
use Rattle.au_store.specs.Recovery.{ReadsAs}
use Rattle.au_store.specs.Starting.{OpenSays}

-- the areas read as what is kept, and the bodies of the selected one end at that length
pub record ReadsUpTo (kept : Kept) (used : ℕ) (all : Areas) : Type 0 where
  pub reads : ReadsAs kept all
  pub ends : used ≡ length (front reads.limit reads.bodies)

-- a journal that can't be mounted or walked can't be looked at, for the same reason
abbrev pub look_fault_of : MountFault → LookFault
look_fault_of mount.Disk = look.Disk
look_fault_of mount.Unformatted = look.Unformatted
look_fault_of (mount.Damaged area at) = look.Damaged area at

-- what can't be looked at can't be opened, for the same reason
abbrev pub opening_fault : LookFault → OpenFault
opening_fault look.Disk = fault.Disk
opening_fault look.Unformatted = fault.Unformatted
opening_fault (look.Damaged area at) = fault.Damaged area at
opening_fault look.Memory = fault.Memory

-- what is said of the areas that couldn't be looked at: what is said of a store on them that can't be opened
abbrev pub LookSays : Areas → LookFault → Type 0
LookSays all why = OpenSays all (opening_fault why)

-- the count of faults rose in the call where it answers that the disk failed, and nowhere else
abbrev pub LookCause : LookFault → ℕ → ℕ → Type 0
LookCause look.Disk before now = (before ≤ now) × HasRisen before now
LookCause look.Unformatted before now = now ≡ before
LookCause (look.Damaged area at) before now = now ≡ before
LookCause look.Memory before now = now ≡ before

abbrev pub LookMeets : {T : Type 0} → Result T LookFault → ℕ → ℕ → Type 0
LookMeets (Ok found) before now = now ≡ before
LookMeets (Err why) before now = LookCause why before now
