-- When a call may say that the disk failed: the disk's count of faults rose, and it rose nowhere else.
use Rattle.std.specs.Prelude.{◌≡◌, ◌≤◌, ℕ, Result, Ok, Err}
use Rattle.au_io.specs.Faults.{HasRisen}
use Rattle.au_journal.specs.declared.appended.Appended.{Appended}
use Rattle.au_journal.specs.declared.appended.Appended.TheVariants as append
use Rattle.au_journal.specs.declared.mended.Mended.{Mended}
use Rattle.au_journal.specs.declared.mended.Mended.TheVariants as mend
use Rattle.au_journal.specs.declared.mount_fault.MountFault.{MountFault}
use Rattle.au_journal.specs.declared.mount_fault.MountFault.TheVariants as fault

abbrev pub FaultCause : MountFault → ℕ → ℕ → Type 0
FaultCause fault.Disk before now = (before ≤ now) × HasRisen before now
FaultCause fault.Unformatted before now = now ≡ before
FaultCause (fault.Damaged area at) before now = now ≡ before

abbrev pub WalkCause : {T : Type 0} → Result T MountFault → ℕ → ℕ → Type 0
WalkCause (Ok value) before now = now ≡ before
WalkCause (Err why) before now = FaultCause why before now

-- of a step that leaves a seat, in doubt where it failed
abbrev pub SeatCause : {T E : Type 0} → Result T E → ℕ → ℕ → Type 0
SeatCause (Ok value) before now = now ≡ before
SeatCause (Err value) before now = (before ≤ now) × HasRisen before now

abbrev pub AppendCause : Appended → ℕ → ℕ → Type 0
AppendCause append.Done before now = now ≡ before
AppendCause append.Disk before now = (before ≤ now) × HasRisen before now
AppendCause (append.Full needed limit) before now = now ≡ before

abbrev pub MendCause : Mended → ℕ → ℕ → Type 0
MendCause mend.Done before now = now ≡ before
MendCause mend.Disk before now = (before ≤ now) × HasRisen before now
