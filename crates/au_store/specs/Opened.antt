-- What opening a store finds on a disk: what it recovers to, or where the first damage is.
use Rattle.std.specs.Prelude.{◌≡◌, ◌⊎◌, ℕ, List, [], ◌∷◌, ◌++◌, length}
use Rattle.au_entries.specs.declared.kept.Kept.{Kept}
use Rattle.au_io.specs.declared.disk.Area.{Area}
use Rattle.au_io.specs.Areas.{Areas, area_of}
use Rattle.au_journal.specs.Frames.{frame, front, IsBroken, IsLimit, Stands}
use Rattle.au_journal.specs.Images.{In, Selects}
use Rattle.au_store.specs.Recovery.{BeginsBy, GoesOnBy, Replayed}

-- the bodies can be replayed from nothing; so can none
abbrev pub AreReplayable : List (List ℕ) → Type 0
AreReplayable [] = Unit {0}
AreReplayable (body ∷ bodies) = (kept : Kept) × Replayed (body ∷ bodies) kept

-- the bytes are no body that may come behind these: the first is to be an image, and each other a frame that goes on
abbrev pub CannotFollow : List (List ℕ) → List ℕ → Type 0
CannotFollow [] body = (kept : Kept) → BeginsBy body kept → ⊥
CannotFollow (first ∷ bodies) body = (kept next : Kept) → Replayed (first ∷ bodies) kept → GoesOnBy kept body next → ⊥

-- behind bodies that can be replayed, which end at that place of the selected area, these bytes come
pub record IsAt (all : Areas) (area : Area) (at : ℕ) (bodies : List (List ℕ)) (rest : List ℕ) : Type 0 where
  pub selected : Selects area all.head
  pub limit : ℕ
  pub in_range : IsLimit limit
  pub split : area_of area all ≡ front limit bodies ++ rest
  pub place : at ≡ length (front limit bodies)
  pub before : AreReplayable bodies

-- an open gate stands there and no frame, or one whose body can't come there
abbrev pub IsFrameDamage : Areas → Area → ℕ → Type 0
IsFrameDamage all area at = (bodies : List (List ℕ)) × (rest : List ℕ) × IsAt all area at bodies rest
    × (IsBroken rest ⊎ ((body more : List ℕ) × (rest ≡ frame body ++ more) × CannotFollow bodies body))

-- the selected area ends where its bodies end, with no gate there
abbrev pub IsBare : Areas → Type 0
IsBare all = (area : Area) × (limit : ℕ) × (bodies : List (List ℕ)) × In area (Stands limit bodies) all × (area_of area all ≡ front limit bodies)
