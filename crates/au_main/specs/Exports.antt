-- What the commands `trail` and `check` write of a store, without opening it.
use Rattle.std.specs.Prelude.{◌≡◌, ⊤, ℕ, List, Option}
use Rattle.std.specs.Io.KnownBytes.{Appends}
use Rattle.au_entries.specs.declared.kept.Kept.{Kept}
use Rattle.au_io.specs.declared.disk.Area.{Area}
use Rattle.au_io.specs.Areas.{Areas}
use Rattle.au_io.specs.Disk.{Meaning, Stays}
use Rattle.au_io.specs.Faults.{HasRisen}
use Rattle.au_report.specs.Checks.{check_text, counts_of}
use Rattle.au_report.specs.Exports.{trail_text}
use Rattle.au_store.specs.declared.look_fault.LookFault.{LookFault}
use Rattle.au_store.specs.declared.look_fault.LookFault.TheVariants as look
use Rattle.au_store.specs.Looking.{LookSays, ReadsUpTo}
use Rattle.au_words.specs.declared.command.Command.{Command}
use Rattle.au_words.specs.declared.command.Command.TheVariants as word
use Rattle.au_words.specs.Words.{IsCommand}
use Rattle.au_main.specs.declared.export.Export.{Export}
use Rattle.au_main.specs.declared.export.Export.TheVariants as export
use Rattle.au_main.specs.declared.status.Status.{Status}
use Rattle.au_main.specs.declared.status.Status.TheVariants.{Done, Usage, ReadFault, WriteFault, DiskFault, Unformatted, Formatted, Damaged, BadLine, TooLong, LobbyFault, Memory, Worn}
use Rattle.au_main.specs.Given.{AppendsFront}

-- ---- the words

-- as one of the commands
abbrev pub as_command : Export → Command
as_command export.Trail = word.Trail
as_command export.Check = word.Check

-- the words are this command
abbrev pub IsExport : List (List ℕ) → Export → Type 0
IsExport words what = IsCommand words (as_command what)

-- ---- the text

-- the text of what is kept, where so many bytes of the journal's area are used
abbrev pub text_of : Export → Kept → ℕ → List ℕ
text_of export.Trail kept used = trail_text kept.trail
text_of export.Check kept used = check_text (counts_of kept used)

-- ---- how it ends

-- the whole text was given
abbrev pub IsExported : Export → (told : Type 0) → Areas → (given gave : Option (List ℕ)) → Type 0
IsExported command told all given gave = (kept : Kept) × (used : ℕ) × (told → ReadsUpTo kept used all) × Appends given gave (text_of command kept used)

-- a front of the text was given
abbrev pub IsExportedInPart : Export → (told : Type 0) → Areas → (given gave : Option (List ℕ)) → Type 0
IsExportedInPart command told all given gave = (kept : Kept) × (used : ℕ) × (told → ReadsUpTo kept used all) × AppendsFront given gave (text_of command kept used)

-- nothing was given, since the disk couldn't be looked at: this is why
abbrev pub IsNotFound : (told : Type 0) → Areas → LookFault → (given gave : Option (List ℕ)) → Type 0
IsNotFound told all why given gave = (gave ≡ given) × (told → LookSays all why)

-- what comes of the command, by how it ends; no other end comes
abbrev pub ExportTo : Status → Export → (told : Type 0) → Areas → (before now : ℕ) → (given gave : Option (List ℕ)) → Type 0
ExportTo Done command told all before now given gave = IsExported command told all given gave × (now ≡ before)
ExportTo WriteFault command told all before now given gave = IsExportedInPart command told all given gave × (now ≡ before)
ExportTo DiskFault command told all before now given gave = (gave ≡ given) × HasRisen before now
ExportTo Unformatted command told all before now given gave = IsNotFound told all look.Unformatted given gave × (now ≡ before)
ExportTo (Damaged area at) command told all before now given gave = IsNotFound told all (look.Damaged area at) given gave × (now ≡ before)
ExportTo Memory command told all before now given gave = (gave ≡ given) × (now ≡ before)
ExportTo Usage command told all before now given gave = ⊥
ExportTo ReadFault command told all before now given gave = ⊥
ExportTo Formatted command told all before now given gave = ⊥
ExportTo (BadLine n) command told all before now given gave = ⊥
ExportTo TooLong command told all before now given gave = ⊥
ExportTo LobbyFault command told all before now given gave = ⊥
ExportTo Worn command told all before now given gave = ⊥

-- The text of the command over what the disk recovers to was to be given. Nothing was written to the disk, and a crash leaves
-- what it could leave before.
pub record HasExport {D : Type 0} (told : Type 0) (meaning : D → Meaning) (faults : D → ℕ) (command : Export) (status : Status) (disk last : D) (given gave : Option (List ℕ)) : Type 0 where
  pub ends : ExportTo status command told (meaning disk).reads (faults disk) (faults last) given gave
  pub stays : Stays (meaning disk) (meaning last)

-- ---- where it can't be done

-- how it ends where the disk couldn't be looked at
abbrev pub look_status : LookFault → Status
look_status look.Disk = DiskFault
look_status look.Unformatted = Unformatted
look_status (look.Damaged area at) = Damaged area at
look_status look.Memory = Memory

-- the bytes are why
abbrev pub IsOfLook : LookFault → Type 0
IsOfLook look.Disk = ⊥
IsOfLook look.Unformatted = ⊤
IsOfLook (look.Damaged area at) = ⊤
IsOfLook look.Memory = ⊥

-- the selected area is formatted and not damaged
pub record CanBeRead (all : Areas) : Type 0 where
  pub formatted : LookSays all look.Unformatted → ⊥
  pub whole : (area : Area) (at : ℕ) → LookSays all (look.Damaged area at) → ⊥
