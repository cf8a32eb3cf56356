-- What a journal stands for between two calls.
use Rattle.std.specs.Prelude.{◌≡◌, ◌⊎◌, true, List, ℕ}
use Rattle.au_io.specs.Disk.{Meaning}
use Rattle.au_journal.specs.declared.doubt.Doubt.TheVariants.{Settled}
use Rattle.au_journal.specs.declared.seat.Seat.{Seat}
use Rattle.au_journal.specs.Seats.{IsDoubted}
use Rattle.au_journal.specs.Walk.{IsBefore, IsWalked}

-- the walk has ended: the journal stands for some bodies, or, in doubt, perhaps for others
pub record IsHeld (m : Meaning) (seat : Seat) : Type 0 where
  pub ended : seat.ended ≡ true
  pub bodies : List (List ℕ)
  pub others : List (List ℕ)
  pub doubted : IsDoubted m seat bodies others

-- the walk is behind some bodies, none of them in doubt, and has found no frame behind them yet, or found one
pub record IsUnderWay (m : Meaning) (seat : Seat) : Type 0 where
  pub settled : seat.doubt ≡ Settled
  pub bodies : List (List ℕ)
  pub walked : IsWalked m seat bodies
  pub next : (seat.reach ≡ seat.used) ⊎ ((n : ℕ) × IsBefore m seat n bodies)

-- the journal is walked, or was walked to its end
abbrev pub IsWalkedOrHeld : Meaning → Seat → Type 0
IsWalkedOrHeld m seat = IsUnderWay m seat ⊎ IsHeld m seat
