-- How making a store ends.
use Rattle.std.specs.Prelude.{◌≡◌, ℕ, List}
use Rattle.au_io.specs.Disk.{Meaning, Stays}
use Rattle.au_io.specs.Faults.{HasRisen}
use Rattle.au_io.specs.Moments.{Leaves, LeavesSince}
use Rattle.au_journal.specs.Creation.{IsSelectedFormatted, OthersAreBlank}
use Rattle.au_journal.specs.Walk.{IsStill, IsUnformatted}
use Rattle.au_opening.specs.Opening.{opening}
use Rattle.au_store.specs.Creating.{CreateLeaves, IsMade}
use Rattle.au_main.specs.declared.status.Status.{Status}
use Rattle.au_main.specs.declared.status.Status.TheVariants.{Done, Usage, ReadFault, WriteFault, DiskFault, Unformatted, Formatted, Damaged, BadLine, TooLong, LobbyFault, Memory, Worn}

-- the disk wasn't formatted, and it is now: all that a crash may leave is the new store
pub record IsCreated (told : Type 0) (password : List ℕ) (limit : ℕ) (old new : Meaning) (before now : ℕ) : Type 0 where
  pub blank : told → IsUnformatted old.reads
  pub made : told → Leaves (IsMade limit (opening password)) new
  pub well : now ≡ before

-- the disk was formatted, and is as it was; all that it holds is synced
pub record IsKeptFormatted (told : Type 0) (old new : Meaning) (before now : ℕ) : Type 0 where
  pub formatted : told → IsSelectedFormatted old.reads
  pub stays : Stays old new
  pub synced : IsStill new
  pub well : now ≡ before

-- what comes of making a store with this password and limit, by how it ends; no other end comes
abbrev pub InitTo : Status → (told : Type 0) → (password : List ℕ) (limit : ℕ) (old new : Meaning) (before now : ℕ) → Type 0
InitTo Done told password limit old new before now = IsCreated told password limit old new before now
InitTo Formatted told password limit old new before now = IsKeptFormatted told old new before now
InitTo DiskFault told password limit old new before now = HasRisen before now
InitTo Memory told password limit old new before now = now ≡ before
InitTo Usage told password limit old new before now = ⊥
InitTo ReadFault told password limit old new before now = ⊥
InitTo WriteFault told password limit old new before now = ⊥
InitTo Unformatted told password limit old new before now = ⊥
InitTo (Damaged area at) told password limit old new before now = ⊥
InitTo (BadLine n) told password limit old new before now = ⊥
InitTo TooLong told password limit old new before now = ⊥
InitTo LobbyFault told password limit old new before now = ⊥
InitTo Worn told password limit old new before now = ⊥

-- a store was to be made on the disk; a crash at any moment leaves what it could leave before, areas that aren't formatted,
-- or the new store. What isn't selected stays unformatted, so that a store that couldn't be made can be made again
pub record HasInit {D : Type 0} (told : Type 0) (meaning : D → Meaning) (faults : D → ℕ) (status : Status) (password : List ℕ) (limit : ℕ) (disk last : D) : Type 0 where
  pub ends : InitTo status told password limit (meaning disk) (meaning last) (faults disk) (faults last)
  pub untouched : status ≡ Memory → last ≡ disk
  pub again : told → Leaves OthersAreBlank (meaning disk) → LeavesSince OthersAreBlank (meaning disk) (meaning last)
  pub any_moment : told → Leaves OthersAreBlank (meaning disk) → LeavesSince (CreateLeaves (meaning disk) (opening password)) (meaning disk) (meaning last)
