-- What a journal stands on between two calls, for any property of the bodies that it holds. A layer above says by the
-- property what the bodies mean.
use Rattle.std.specs.Prelude.{◌≡◌, ◌≢◌, ◌⊎◌, ℕ, List}
use Rattle.au_io.specs.declared.disk.Area.{Area}
use Rattle.au_io.specs.Areas.{Areas}
use Rattle.au_io.specs.Disk.{Meaning}
use Rattle.au_io.specs.Moments.{Leaves}
use Rattle.au_journal.specs.declared.doubt.Doubt.TheVariants.{Settled}
use Rattle.au_journal.specs.declared.seat.Seat.{Seat}
use Rattle.au_journal.specs.Images.{In, StandsGated}
use Rattle.au_journal.specs.Seats.{IsSettled, IsDoubted}

-- the selected area holds bodies that have the property, and a closed gate stands behind them
pub record Holds (P : List (List ℕ) → Type 0) (all : Areas) : Type 0 where
  pub area : Area
  pub limit : ℕ
  pub bodies : List (List ℕ)
  pub held : In area (StandsGated limit bodies) all
  pub so : P bodies

-- it holds bodies that have the one property or the other
abbrev pub HoldsEither : (List (List ℕ) → Type 0) → (List (List ℕ) → Type 0) → Areas → Type 0
HoldsEither P Q all = Holds P all ⊎ Holds Q all

-- no body is in doubt: the journal stands for bodies that have the property, and so does all that a crash may leave
pub record IsSettledOn (P : List (List ℕ) → Type 0) (m : Meaning) (seat : Seat) : Type 0 where
  pub bodies : List (List ℕ)
  pub settled : IsSettled m seat bodies
  pub so : P bodies
  pub leaves : Leaves (Holds P) m

-- the last write is in doubt: a crash may leave the bodies, or the others that it was to leave
pub record IsInDoubt (P Q : List (List ℕ) → Type 0) (m : Meaning) (seat : Seat) : Type 0 where
  pub bodies : List (List ℕ)
  pub others : List (List ℕ)
  pub doubted : IsDoubted m seat bodies others
  pub so : P bodies
  pub so_then : Q others
  pub unsettled : seat.doubt ≢ Settled
  pub leaves : Leaves (HoldsEither P Q) m

-- the journal stands for bodies of the first property; where a write is in doubt, the others have the second
abbrev pub StandsOn : (List (List ℕ) → Type 0) → (List (List ℕ) → Type 0) → Meaning → Seat → Type 0
StandsOn P Q m seat = ((seat.doubt ≡ Settled) × IsSettledOn P m seat) ⊎ IsInDoubt P Q m seat
