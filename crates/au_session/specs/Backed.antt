-- What a door keeps of its lobby.
use Rattle.std.specs.Prelude.{◌≡◌, ℕ, ◌+◌, ◌≤◌, List, ◌++◌, length, Option, None, Some, ⊤}
use Rattle.au_io.specs.Visits.{Told, Visits}
use Rattle.au_session.specs.Answered.{AllAnswered}

-- The lobby handed out `first` connections before the door drew its own, and had finished no more than those. The connections
-- that came back to the door were finished last, and all of them are answered.
pub record KeepsCount (v : Visits) (drawn back : ℕ) : Type 0 where
  pub first : ℕ
  pub before : List Told
  pub backed : List Told
  pub handed : v.handed ≡ first + drawn
  pub finished : v.finished ≡ before ++ backed
  pub count : length backed ≡ back
  pub room : length before ≤ first
  pub answered : AllAnswered backed

-- where the lobby tells its connections, those that came back to the door are answered
abbrev pub Backed : Option Visits → ℕ → ℕ → Type 0
Backed None drawn back = ⊤
Backed (Some v) drawn back = KeepsCount v drawn back
