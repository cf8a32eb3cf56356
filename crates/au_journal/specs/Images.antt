-- The states of an area between two calls of the disk, each by what an image of it holds.
use Rattle.std.specs.Prelude.{◌≡◌, ◌≢◌, ◌⊎◌, ◌≤◌, ℕ, Bool, true, false, List, [], ◌∷◌, ◌++◌, length, ⊤}
use Rattle.au_io.specs.declared.disk.Area.{Area}
use Rattle.au_io.specs.declared.disk.Area.TheVariants.{Head, A, B}
use Rattle.au_io.specs.Areas.{Areas, area_of}
use Rattle.au_io.specs.Disk.{Meaning}
use Rattle.au_journal.specs.Frames.{front, Stands}

-- a closed gate stands behind the front
pub record Closed (front area : List ℕ) : Type 0 where
  pub gate : ℕ
  pub tail : List ℕ
  pub split : area ≡ front ++ gate ∷ tail
  pub shut : gate ≢ 165

-- the area holds these bodies and no others, and a closed gate stands behind them
pub record StandsGated (limit : ℕ) (bodies : List (List ℕ)) (area : List ℕ) : Type 0 where
  pub stands : Stands limit bodies area
  pub gated : Closed (front limit bodies) area

-- behind the closed gate stand these bytes
pub record Staged (front bytes area : List ℕ) : Type 0 where
  pub gate : ℕ
  pub tail : List ℕ
  pub split : area ≡ front ++ gate ∷ bytes ++ tail
  pub shut : gate ≢ 165

-- the bytes stand there, and the gate is in doubt
pub record Doubted (front bytes area : List ℕ) : Type 0 where
  pub gate : ℕ
  pub tail : List ℕ
  pub split : area ≡ front ++ gate ∷ bytes ++ tail

-- behind the front comes nothing, or the byte of a gate that is in doubt
pub record TornEnd (front area : List ℕ) : Type 0 where
  pub tail : List ℕ
  pub split : area ≡ front ++ tail
  pub short : length tail ≤ 1

-- the area ends behind the front, or a closed gate stands there
abbrev pub EndsIn : Bool → List ℕ → List ℕ → Type 0
EndsIn true front area = area ≡ front
EndsIn false front area = Closed front area

-- the byte of Head selects the area: 0x42 selects B, any other byte or none A
abbrev pub Selects : Area → List ℕ → Type 0
Selects Head head = ⊥
Selects A [] = ⊤
Selects A (letter ∷ rest) = letter ≢ 66
Selects B [] = ⊥
Selects B (letter ∷ rest) = letter ≡ 66

-- this area is the selected one, and has the property
pub record In (area : Area) (P : List ℕ → Type 0) (all : Areas) : Type 0 where
  pub selected : Selects area all.head
  pub here : P (area_of area all)

-- the area holds the bodies, and a closed gate stands behind them; where it ended behind them, nothing may, or one byte of a gate
abbrev pub StandsAt : Bool → ℕ → List (List ℕ) → List ℕ → Type 0
StandsAt true limit bodies area = StandsGated limit bodies area ⊎ TornEnd (front limit bodies) area
StandsAt false limit bodies area = StandsGated limit bodies area

-- the selected area is this one and holds the bodies, or it is that one and holds the others
abbrev pub MayStandFor : Bool → ℕ → Area → List (List ℕ) → Area → List (List ℕ) → Areas → Type 0
MayStandFor bare limit area bodies there others all = In area (StandsAt bare limit bodies) all ⊎ In there (StandsGated limit others) all

-- the other of the two areas that have frames
abbrev pub other_of : Area → Area
other_of Head = Head
other_of A = B
other_of B = A

-- the byte of Head by which an area is selected
abbrev pub letter_of : Area → ℕ
letter_of Head = 65
letter_of A = 65
letter_of B = 66

-- a crash leaves of the area what it reads
abbrev pub IsSafe : Area → Meaning → Type 0
IsSafe area m = (c : Areas) → m.images c → area_of area c ≡ area_of area m.reads

-- any bytes in place of any
abbrev pub AnyBytes : List ℕ → List ℕ → Type 0
AnyBytes old new = ⊤
