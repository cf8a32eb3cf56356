-- How serving ends at a door that was closed.
use Rattle.std.specs.Prelude.{true, false, ◌≤◌, ℕ, IfSome, List, Option, ⊤}
use Rattle.au_io.specs.Visits.{Visits}
use Rattle.au_session.specs.Backed.{Backed}
use Rattle.au_session.specs.declared.drawn.DoorEntry.{DoorEntry}
use Rattle.au_session.specs.Stands.{DoorStands}
use Rattle.au_server.specs.declared.end.End.{End}
use Rattle.au_server.specs.declared.end.End.TheVariants.{Done, LobbyFault, Memory}
use Rattle.au_server.specs.Ends.{IsEmptied}

-- all that was drawn came back, the lobby hasn't failed since the door was opened, and no more are to be served
pub record IsAllBack (asked : Option ℕ) (history : List DoorEntry) (visits : Option Visits) (faults : ℕ) : Type 0 where
  pub drawn : ℕ
  pub kept : ∥ Backed visits drawn drawn ∥₁
  pub stands : DoorStands visits faults drawn drawn false history
  pub emptied : IsEmptied visits drawn asked
  pub within : IfSome asked (λ most. drawn ≤ most)

-- the lobby has failed since the door was opened
pub record HasFailed (history : List DoorEntry) (visits : Option Visits) (faults : ℕ) : Type 0 where
  pub drawn : ℕ
  pub back : ℕ
  pub stands : DoorStands visits faults drawn back true history

-- what is known of a door that was closed, by how serving ends
abbrev pub ClosesTo : End → (asked : Option ℕ) → List DoorEntry → Option Visits → ℕ → Type 0
ClosesTo Done asked history visits faults = IsAllBack asked history visits faults
ClosesTo LobbyFault asked history visits faults = HasFailed history visits faults
ClosesTo Memory asked history visits faults = ⊤
