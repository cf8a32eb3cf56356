-- When a command can end only by being done, or by want of memory.
use Rattle.std.specs.Prelude.{◌≡◌, ◌⊎◌, ◌≤◌, ℕ, List, [], ◌∷◌, ◌++◌, length}
use Rattle.au_io.specs.declared.disk.Area.{Area}
use Rattle.au_io.specs.Areas.{Areas}
use Rattle.au_io.specs.Faults.{HasRisen}
use Rattle.au_script.specs.declared.lines.ScriptLine.{ScriptLine}
use Rattle.au_script.specs.Lines.{Says}
use Rattle.au_store.specs.declared.open_fault.OpenFault.TheVariants as fault
use Rattle.au_store.specs.Starting.{OpenSays}
use Rattle.au_main.specs.declared.status.Status.{Status}
use Rattle.au_main.specs.declared.status.Status.TheVariants.{Done, DiskFault, Memory}
use Rattle.au_main.specs.Lines.{AreLines, BeginsWithLines, script_limit}

-- the selected area is formatted and not damaged, and a number is left for another instance
pub record IsReady (all : Areas) : Type 0 where
  pub formatted : OpenSays all fault.Unformatted → ⊥
  pub whole : (area : Area) (at : ℕ) → OpenSays all (fault.Damaged area at) → ⊥
  pub fresh : OpenSays all fault.Worn → ⊥

-- each line of the bytes is a script line, and there are no more bytes than a script may have
pub record IsScript (bytes : List ℕ) : Type 0 where
  pub short : length bytes ≤ script_limit
  pub spelled : (before : List (List ℕ)) (line : List ℕ) → AreLines (before ++ line ∷ []) → BeginsWithLines (before ++ line ∷ []) bytes
      → (said : ScriptLine) × Says line said

-- no fault was counted
abbrev pub NoneRose : ℕ → ℕ → Type 0
NoneRose before now = HasRisen before now → ⊥

-- the command was done, or there was no memory
abbrev pub IsDoneOrShort : Status → Type 0
IsDoneOrShort status = (status ≡ Done) ⊎ (status ≡ Memory)

-- the end that was wanted came, or the disk failed, or there was no memory
abbrev pub IsEndOr : Status → Status → Type 0
IsEndOr wanted status = (status ≡ wanted) ⊎ ((status ≡ DiskFault) ⊎ (status ≡ Memory))
