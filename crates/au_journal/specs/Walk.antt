-- What is known of an area when it is mounted, and while its frames are walked.
use Rattle.std.specs.Prelude.{◌≡◌, ◌⊎◌, ◌<◌, ◌≤◌, ◌+◌, ℕ, false, List, [], ◌++◌, length, take, drop, codes, ⊤}
use Rattle.std.specs.Int.{w32, to_be_bytes}
use Rattle.au_io.specs.declared.disk.Area.{Area}
use Rattle.au_io.specs.Areas.{Areas, area_of}
use Rattle.au_io.specs.Disk.{Meaning}
use Rattle.au_journal.specs.declared.seat.Seat.{Seat}
use Rattle.au_journal.specs.declared.mount_fault.MountFault.{MountFault}
use Rattle.au_journal.specs.declared.mount_fault.MountFault.TheVariants as fault
use Rattle.au_journal.specs.Frames.{frame, front, header, IsLimit, IsOpen, IsShut, IsBroken}
use Rattle.au_journal.specs.Images.{Selects}
use Rattle.au_journal.specs.Seats.{IsPlaced}

-- at least 14 bytes, and an open gate before them
pub record IsFormatted (area : List ℕ) : Type 0 where
  pub long : 14 ≤ length area
  pub opens : IsOpen area

-- the name of the format stands behind the area's gate
abbrev pub IsNamed : List ℕ → Type 0
IsNamed area = take 8 (drop 1 area) ≡ codes "AUJRNL01"

-- no limit that an area may have stands behind the name
abbrev pub HasNoLimit : List ℕ → Type 0
HasNoLimit area = (limit : ℕ) → IsLimit limit → take 4 (drop 9 area) ≡ to_be_bytes w32 limit → ⊥

-- the first damage of a head, which is an area's first 14 bytes, by its place
abbrev pub HeadDamage : List ℕ → ℕ → Type 0
HeadDamage area at = ((at ≡ 1) × (IsNamed area → ⊥))
    ⊎ (((at ≡ 9) × IsNamed area × HasNoLimit area)
    ⊎ ((at ≡ 13) × (limit : ℕ) × IsLimit limit × (take 13 area ≡ header limit) × IsShut (drop 13 area)))

-- the selected area isn't formatted
abbrev pub IsUnformatted : Areas → Type 0
IsUnformatted all = (area : Area) → Selects area all.head → IsFormatted (area_of area all) → ⊥

-- the area is selected and formatted, and its head is damaged
pub record IsDamaged (all : Areas) (area : Area) (at : ℕ) : Type 0 where
  pub selected : Selects area all.head
  pub formatted : IsFormatted (area_of area all)
  pub damage : HeadDamage (take 14 (area_of area all)) at

-- what is said of a head that is damaged
abbrev pub IsHeadFault : List ℕ → Area → MountFault → Type 0
IsHeadFault head area fault.Disk = ⊤
IsHeadFault head area fault.Unformatted = ⊥
IsHeadFault head area (fault.Damaged where_ at) = (where_ ≡ area) × HeadDamage head at

-- what a mount says of the areas that it couldn't mount
abbrev pub MountSays : Areas → MountFault → Type 0
MountSays all fault.Disk = ⊤
MountSays all fault.Unformatted = IsUnformatted all
MountSays all (fault.Damaged area at) = IsDamaged all area at

-- a crash leaves what is read, and nothing else
abbrev pub IsStill : Meaning → Type 0
IsStill m = (c : Areas) → m.images c → c ≡ m.reads

-- the walk is behind these bodies, in an area of which a crash leaves what is read
pub record IsWalked (m : Meaning) (seat : Seat) (bodies : List (List ℕ)) : Type 0 where
  pub placed : IsPlaced seat bodies
  pub still : IsStill m
  pub selected : Selects seat.area m.reads.head
  pub walking : seat.ended ≡ false
  pub size : seat.size ≡ length (area_of seat.area m.reads)
  pub rest : List ℕ
  pub split : area_of seat.area m.reads ≡ front seat.limit bodies ++ rest

-- the walk begins, and an open gate comes first
pub record IsMounted (m : Meaning) (seat : Seat) : Type 0 where
  pub walked : IsWalked m seat []
  pub opens : IsOpen walked.rest

-- these bytes begin with a frame, whose body has that length
pub record BeginsWithFrame (n : ℕ) (rest : List ℕ) : Type 0 where
  pub body : List ℕ
  pub more : List ℕ
  pub size : length body ≡ n
  pub some : 0 < n
  pub split : rest ≡ frame body ++ more

-- the walk is before a body of that length
pub record IsBefore (m : Meaning) (seat : Seat) (n : ℕ) (bodies : List (List ℕ)) : Type 0 where
  pub walked : IsWalked m seat bodies
  pub next : BeginsWithFrame n walked.rest
  pub reach : seat.reach ≡ seat.used + 9 + n

-- what the walk says where it can't go on: only damage, at the used length
abbrev pub WalkSays : List ℕ → Area → ℕ → MountFault → Type 0
WalkSays rest area used fault.Disk = ⊤
WalkSays rest area used fault.Unformatted = ⊥
WalkSays rest area used (fault.Damaged where_ at) = (where_ ≡ area) × (at ≡ used) × IsBroken rest
