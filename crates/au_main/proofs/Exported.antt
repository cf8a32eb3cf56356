-- How the commands `trail` and `check` end, and why.
use Rattle.std.proofs.Common.{◌≡◌, inl, inr, ℕ, List, refl, sym, ◌∙◌, ap, subst}
use Rattle.std.specs.Prelude.{Option}
use Rattle.au_entries.specs.declared.kept.Kept.{Kept}
use Rattle.au_io.specs.declared.disk.Area.{Area}
use Rattle.au_io.specs.Areas.{Areas}
use Rattle.au_journal.specs.Walk.{IsUnformatted}
use Rattle.au_store.specs.declared.look_fault.LookFault.{LookFault}
use Rattle.au_store.specs.declared.look_fault.LookFault.TheVariants as look
use Rattle.au_store.specs.declared.open_fault.OpenFault.{OpenFault}
use Rattle.au_store.specs.declared.open_fault.OpenFault.TheVariants as fault
use Rattle.au_store.specs.Looking.{LookCause, LookSays, ReadsUpTo, opening_fault}
use Rattle.au_store.specs.Recovery.{ReadsAs}
use Rattle.au_store.specs.Starting.{IsOfBytes, OpenSays}
use Rattle.au_main.specs.declared.export.Export.{Export}
use Rattle.au_main.specs.declared.status.Status.{Status}
use Rattle.au_main.specs.declared.status.Status.TheVariants.{Done, Usage, ReadFault, WriteFault, DiskFault, Unformatted, Formatted, Damaged, BadLine, TooLong, LobbyFault, Memory, Worn}
use Rattle.au_main.specs.Causes.{EndSays}
use Rattle.au_main.specs.Complete.{IsDoneOrShort, IsEndOr, NoneRose}
use Rattle.au_main.specs.Exports.{CanBeRead, ExportTo, IsOfLook, look_status, text_of}
use Rattle.au_main.specs.Given.{GivesText}
use Rattle.au_main.specs.Ran.{IsReadCause, IsWriteCause}

-- ---- what comes of it

module _ (command : Export) (told : Type 0) (all : Areas) (before now : ℕ) (given gave : Option (List ℕ)) where
  -- what the disk reads as was found
  pub found : (kept : Kept) (used : ℕ) → (told → ReadsUpTo kept used all) → now ≡ before → (status : Status) → GivesText (text_of command kept used) status given gave
      → ExportTo status command told all before now given gave
  found kept used reads well Done gives = ((kept, used, reads, gives), well)
  found kept used reads well WriteFault gives = ((kept, used, reads, gives), well)
  found kept used reads well Memory gives = (gives, well)
  found kept used reads well Usage gives = absurd gives
  found kept used reads well ReadFault gives = absurd gives
  found kept used reads well DiskFault gives = absurd gives
  found kept used reads well Unformatted gives = absurd gives
  found kept used reads well Formatted gives = absurd gives
  found kept used reads well (Damaged area at) gives = absurd gives
  found kept used reads well (BadLine n) gives = absurd gives
  found kept used reads well TooLong gives = absurd gives
  found kept used reads well LobbyFault gives = absurd gives
  found kept used reads well Worn gives = absurd gives

  -- it couldn't be looked at
  pub not_found : (why : LookFault) → (told → LookSays all why) → LookCause why before now → gave ≡ given → ExportTo (look_status why) command told all before now given gave
  not_found look.Disk says cause none = (none, cause.1)
  not_found look.Unformatted says cause none = ((none, says), cause)
  not_found (look.Damaged area at) says cause none = ((none, says), cause)
  not_found look.Memory says cause none = (none, cause)

  pub export_says : (status : Status) → ExportTo status command told all before now given gave → EndSays status told all before now
  export_says Done to = tt
  export_says Usage to = absurd to
  export_says ReadFault to = absurd to
  export_says WriteFault to = tt
  export_says DiskFault to = to.1
  export_says Unformatted to = to.0.1
  export_says Formatted to = absurd to
  export_says (Damaged area at) to = to.0.1
  export_says (BadLine n) to = absurd to
  export_says TooLong to = absurd to
  export_says LobbyFault to = absurd to
  export_says Memory to = tt
  export_says Worn to = absurd to

  -- nothing is read of the source
  pub reads_nothing : (status : Status) → ExportTo status command told all before now given gave → (count : ℕ) → IsReadCause status count count
  reads_nothing Done to count = refl
  reads_nothing Usage to count = absurd to
  reads_nothing ReadFault to count = absurd to
  reads_nothing WriteFault to count = refl
  reads_nothing DiskFault to count = refl
  reads_nothing Unformatted to count = refl
  reads_nothing Formatted to count = absurd to
  reads_nothing (Damaged area at) to count = refl
  reads_nothing (BadLine n) to count = absurd to
  reads_nothing TooLong to count = absurd to
  reads_nothing LobbyFault to count = absurd to
  reads_nothing Memory to count = refl
  reads_nothing Worn to count = absurd to

  pub export_is_a_command : (status : Status) → ExportTo status command told all before now given gave → status ≡ Usage → ⊥
  export_is_a_command status to is = subst (λ (s : Status). ExportTo s command told all before now given gave) is to

  pub export_completes : (wb wn : ℕ) (status : Status) → ExportTo status command told all before now given gave → IsWriteCause status wb wn → told → CanBeRead all → NoneRose wb wn → NoneRose before now → IsDoneOrShort status
  export_completes wb wn Done to write tells can no_write no_disk = inl refl
  export_completes wb wn Usage to write tells can no_write no_disk = absurd to
  export_completes wb wn ReadFault to write tells can no_write no_disk = absurd to
  export_completes wb wn WriteFault to write tells can no_write no_disk = absurd (no_write write)
  export_completes wb wn DiskFault to write tells can no_write no_disk = absurd (no_disk to.1)
  export_completes wb wn Unformatted to write tells can no_write no_disk = absurd (can.formatted (to.0.1 tells))
  export_completes wb wn Formatted to write tells can no_write no_disk = absurd to
  export_completes wb wn (Damaged area at) to write tells can no_write no_disk = absurd (can.whole area at (to.0.1 tells))
  export_completes wb wn (BadLine n) to write tells can no_write no_disk = absurd to
  export_completes wb wn TooLong to write tells can no_write no_disk = absurd to
  export_completes wb wn LobbyFault to write tells can no_write no_disk = absurd to
  export_completes wb wn Memory to write tells can no_write no_disk = inr refl
  export_completes wb wn Worn to write tells can no_write no_disk = absurd to

-- ---- where the bytes are why it can't be done

-- what the public laws of stores say of the areas
pub record OneCause (all : Areas) : Type 0 where
  pub one : (why other : OpenFault) → OpenSays all why → OpenSays all other → IsOfBytes why → IsOfBytes other → why ≡ other
  pub whole : (kept : Kept) (area : Area) (at : ℕ) → ReadsAs kept all → OpenSays all (fault.Damaged area at) → ⊥
  pub formatted : (kept : Kept) → ReadsAs kept all → IsUnformatted all → ⊥

of_bytes : (why : LookFault) → IsOfLook why → IsOfBytes (opening_fault why)
of_bytes look.Disk of = absurd of
of_bytes look.Unformatted of = tt
of_bytes (look.Damaged area at) of = tt
of_bytes look.Memory of = absurd of

not_readable : (all : Areas) → OneCause all → (kept : Kept) → ReadsAs kept all → (why : LookFault) → IsOfLook why → LookSays all why → ⊥
not_readable all cause kept reads look.Disk of says = of
not_readable all cause kept reads look.Unformatted of says = cause.formatted kept reads says
not_readable all cause kept reads (look.Damaged area at) of says = cause.whole kept area at reads says
not_readable all cause kept reads look.Memory of says = of

-- the end by the fault of an opening; one that no look has stands for none
abbrev opening_status : OpenFault → Status
opening_status fault.Disk = DiskFault
opening_status fault.Unformatted = Unformatted
opening_status (fault.Damaged area at) = Damaged area at
opening_status fault.Worn = Worn
opening_status fault.Memory = Memory

same_status : (why : LookFault) → opening_status (opening_fault why) ≡ look_status why
same_status look.Disk = refl
same_status look.Unformatted = refl
same_status (look.Damaged area at) = refl
same_status look.Memory = refl

by_cause : (all : Areas) → OneCause all → (why other : LookFault) → IsOfLook why → LookSays all why → IsOfLook other → LookSays all other → look_status other ≡ look_status why
by_cause all cause why other of says of_other says_other =
    sym (same_status other) ∙ ap opening_status (cause.one (opening_fault other) (opening_fault why) says_other says (of_bytes other of_other) (of_bytes why of)) ∙ same_status why

pub export_over : (command : Export) (told : Type 0) (all : Areas) (before now : ℕ) (given gave : Option (List ℕ)) → told → OneCause all → (why : LookFault) → IsOfLook why → LookSays all why
    → (status : Status) → ExportTo status command told all before now given gave → IsEndOr (look_status why) status
export_over command told all before now given gave tells cause why of says Done ((kept, used, reads, gives), well) = absurd (not_readable all cause kept (reads tells).reads why of says)
export_over command told all before now given gave tells cause why of says WriteFault ((kept, used, reads, gives), well) = absurd (not_readable all cause kept (reads tells).reads why of says)
export_over command told all before now given gave tells cause why of says DiskFault to = inr (inl refl)
export_over command told all before now given gave tells cause why of says Memory to = inr (inr refl)
export_over command told all before now given gave tells cause why of says Unformatted to = inl (by_cause all cause why look.Unformatted of says tt (to.0.1 tells))
export_over command told all before now given gave tells cause why of says (Damaged area at) to = inl (by_cause all cause why (look.Damaged area at) of says tt (to.0.1 tells))
export_over command told all before now given gave tells cause why of says Usage to = absurd to
export_over command told all before now given gave tells cause why of says ReadFault to = absurd to
export_over command told all before now given gave tells cause why of says Formatted to = absurd to
export_over command told all before now given gave tells cause why of says (BadLine n) to = absurd to
export_over command told all before now given gave tells cause why of says TooLong to = absurd to
export_over command told all before now given gave tells cause why of says LobbyFault to = absurd to
export_over command told all before now given gave tells cause why of says Worn to = absurd to
