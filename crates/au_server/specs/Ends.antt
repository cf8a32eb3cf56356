-- How serving ends, by what its lobby tells before and after.
use Rattle.std.specs.Prelude.{◌≡◌, ◌⊎◌, ◌+◌, ◌-◌, ◌^◌, ◌≤◌, ℕ, length, drop, IfSome, Option, Some, ⊤}
use Rattle.au_io.specs.Faults.{HasRisen}
use Rattle.au_io.specs.Visits.{Visits}
use Rattle.au_session.specs.Answered.{AllAnswered}
use Rattle.au_session.specs.Spent.{NoneLeft}
use Rattle.au_server.specs.declared.end.End.{End}
use Rattle.au_server.specs.declared.end.End.TheVariants.{Done, LobbyFault, Memory}

-- this number of connections was handed out, as many were finished, and each of these was answered
pub record AllBackBy (drawn : ℕ) (old new : Visits) : Type 0 where
  pub handed : new.handed ≡ old.handed + drawn
  pub finished : length new.finished ≡ length old.finished + drawn
  pub answered : ∥ AllAnswered (drop (length old.finished) new.finished) ∥₁

-- a lobby that tells its connections has all of them back
abbrev pub AllBack : ℕ → (old new : Option Visits) → Type 0
AllBack drawn old new = (v w : Visits) → old ≡ Some v → new ≡ Some w → AllBackBy drawn v w

-- no connection is left, or all numbers of clients were handed out, or all connections that were asked for
abbrev pub IsEmptied : Option Visits → ℕ → (asked : Option ℕ) → Type 0
IsEmptied visits drawn asked = NoneLeft visits ⊎ ((drawn ≡ 2 ^ 32 - 1) ⊎ (asked ≡ Some drawn))

-- Serving is done only where all that were handed out came back answered, no more are to be served, no more were than were
-- asked for, and the lobby didn't fail.
abbrev pub EndsTo : End → (asked : Option ℕ) → (old new : Option Visits) → (before now : ℕ) → Type 0
EndsTo Done asked old new before now = (drawn : ℕ) × AllBack drawn old new × IsEmptied new drawn asked × IfSome asked (λ most. drawn ≤ most) × (now ≡ before)
EndsTo LobbyFault asked old new before now = HasRisen before now
EndsTo Memory asked old new before now = ⊤
