-- Whose the sessions of a state are.
use Rattle.std.specs.Prelude.{◌≡◌, ⊤, List, [], ◌∷◌, None}
use Rattle.au_base.specs.declared.numbers.ClientNo.{ClientNo}
use Rattle.au_step.specs.State.{OpenSession}
use Rattle.au_step.specs.Step.{session_of}

-- the client has no session
abbrev pub IsOff : List OpenSession → ClientNo → Type 0
IsOff sessions client = session_of sessions client ≡ None

-- no client has two sessions
abbrev pub HaveOneEach : List OpenSession → Type 0
HaveOneEach [] = ⊤
HaveOneEach (seat ∷ sessions) = IsOff sessions seat.session.client × HaveOneEach sessions
