-- What making a store leaves on a disk.
use Rattle.std.specs.Prelude.{◌≡◌, ◌⊎◌, ◌≤◌, ℕ, List}
use Rattle.au_entries.specs.declared.kept.Kept.{Kept}
use Rattle.au_io.specs.declared.disk.Area.TheVariants.{A}
use Rattle.au_io.specs.Areas.{Areas}
use Rattle.au_io.specs.Disk.{Meaning}
use Rattle.au_io.specs.Faults.{HasRisen}
use Rattle.au_journal.specs.Creation.{IsNew}
use Rattle.au_journal.specs.Images.{In}
use Rattle.au_journal.specs.Walk.{IsUnformatted}
use Rattle.au_store.specs.declared.created.Created.{Created}
use Rattle.au_store.specs.declared.created.Created.TheVariants as answer
use Rattle.au_store.specs.Recovery.{RecoversTo}

-- area A is a new one with this limit and one body: a closed gate stands behind it
abbrev pub HasLimit : ℕ → Areas → Type 0
HasLimit limit all = In A (λ area. (body : List ℕ) × IsNew limit body area) all

-- the areas recover to what is kept, under this limit
pub record IsMade (limit : ℕ) (kept : Kept) (all : Areas) : Type 0 where
  pub recovers : RecoversTo kept all
  pub limited : HasLimit limit all

-- an image from before, or one of areas that aren't formatted, or one that recovers to what is kept
abbrev pub CreateLeaves : Meaning → Kept → Areas → Type 0
CreateLeaves old kept all = old.images all ⊎ (IsUnformatted all ⊎ RecoversTo kept all)

-- the count of faults rose in the call where it answers that the disk failed, and nowhere else
abbrev pub CreateCause : Created → ℕ → ℕ → Type 0
CreateCause answer.Done before now = now ≡ before
CreateCause answer.Formatted before now = now ≡ before
CreateCause answer.Disk before now = (before ≤ now) × HasRisen before now
CreateCause answer.Memory before now = now ≡ before
