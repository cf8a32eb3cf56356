-- Why a command ends as it does, by what the disk held and how often it failed.
use Rattle.std.specs.Prelude.{ℕ, ⊤}
use Rattle.au_io.specs.Areas.{Areas}
use Rattle.au_io.specs.Faults.{HasRisen}
use Rattle.au_journal.specs.Creation.{IsSelectedFormatted}
use Rattle.au_store.specs.declared.open_fault.OpenFault.TheVariants as fault
use Rattle.au_store.specs.Starting.{OpenSays}
use Rattle.au_main.specs.declared.status.Status.{Status}
use Rattle.au_main.specs.declared.status.Status.TheVariants.{Done, Usage, ReadFault, WriteFault, DiskFault, Unformatted, Formatted, Damaged, BadLine, TooLong, LobbyFault, Memory, Worn}

-- what an end says of the areas as they were read, where the disk tells it, and of the disk's count of faults
abbrev pub EndSays : Status → (told : Type 0) → Areas → (before now : ℕ) → Type 0
EndSays DiskFault told all before now = HasRisen before now
-- the selected area isn't formatted, its first damage is there, or no number is left for another instance
EndSays Unformatted told all before now = told → OpenSays all fault.Unformatted
EndSays (Damaged area at) told all before now = told → OpenSays all (fault.Damaged area at)
EndSays Worn told all before now = told → OpenSays all fault.Worn
-- the selected area is formatted
EndSays Formatted told all before now = told → IsSelectedFormatted all
EndSays LobbyFault told all before now = ⊥
EndSays Done told all before now = ⊤
EndSays Usage told all before now = ⊤
EndSays ReadFault told all before now = ⊤
EndSays WriteFault told all before now = ⊤
EndSays (BadLine line) told all before now = ⊤
EndSays TooLong told all before now = ⊤
EndSays Memory told all before now = ⊤

-- why a command that may have a lobby ends so: where the lobby failed, its count of faults rose
abbrev pub TopSays : Status → (told : Type 0) → Areas → (before now : ℕ) → (lobby lobby_now : ℕ) → Type 0
TopSays LobbyFault told all before now lobby lobby_now = HasRisen lobby lobby_now
TopSays status told all before now lobby lobby_now = EndSays status told all before now
