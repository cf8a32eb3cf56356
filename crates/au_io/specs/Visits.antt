-- What is known of connections, and what a lobby's calls do to that.
use Rattle.std.specs.Prelude.{◌≡◌, ℕ, ◌+◌, ◌<◌, ◌≤◌, List, [], ◌∷◌, ◌++◌, length, Option, Some, None, IfSome, ⊤}
use Rattle.au_io.specs.Faults.{HasRisen}
use Rattle.au_io.specs.declared.lobby.Opened.{Opened}
use Rattle.au_io.specs.declared.lobby.Opened.TheVariants as opened
use Rattle.au_io.specs.declared.lobby.Next.{Next}
use Rattle.au_io.specs.declared.lobby.Next.TheVariants as next

-- what a connection tells: what is left of it, what was taken of it, what was given to it, how often it has failed
pub record Told : Type 0 where
  pub left : Option (List ℕ)
  pub taken : Option (List ℕ)
  pub given : Option (List ℕ)
  pub faults : ℕ

-- nothing was taken or given, and there was no fault
pub record IsFresh (told : Told) : Type 0 where
  pub taken : IfSome told.taken (λ bytes. bytes ≡ [])
  pub given : IfSome told.given (λ bytes. bytes ≡ [])
  pub faults : told.faults ≡ 0

-- how many connections were handed out, what each tells that is left, as they come, and what each tells that was finished
pub record Visits : Type 0 where
  pub handed : ℕ
  pub left : List Told
  pub finished : List Told

-- one more was handed out, and these are left
abbrev pub handing : List Told → Visits → Visits
handing rest visits = record { handed = visits.handed + 1; left = rest; finished = visits.finished }

-- the connection that was handed out tells the first of what was left, and the rest is left
pub record IsFirst (told : Told) (visits : Visits) (new : Option Visits) : Type 0 where
  pub rest : List Told
  pub first : visits.left ≡ told ∷ rest
  pub after : new ≡ Some (handing rest visits)

-- one more was finished, as the last
abbrev pub finishing : Told → Visits → Visits
finishing told visits = record { handed = visits.handed; left = visits.left; finished = visits.finished ++ told ∷ [] }

-- where it is told, fewer were finished than handed out
abbrev pub HasOut : Option Visits → Type 0
HasOut visits = IfSome visits (λ v. length v.finished < v.handed)

-- one more was finished; what isn't told stays untold
abbrev pub Finishes : Option Visits → Option Visits → Told → Type 0
Finishes None new told = new ≡ None
Finishes (Some visits) new told = new ≡ Some (finishing told visits)

module _ {L : Type 0} where
  -- the first of the connections that are left comes, and none where none is left; what isn't told stays untold
  abbrev pub Hands : (L → Told) → Option Visits → Option Visits → Next L → Type 0
  Hands told None new answer = new ≡ None
  Hands told (Some visits) new (next.Link link) = IsFirst (told link) visits new
  Hands told (Some visits) new next.Closed = (visits.left ≡ []) × (new ≡ Some visits)
  Hands told (Some visits) new next.Failed = new ≡ Some visits

  -- a connection that comes is fresh
  abbrev pub HandsFresh : (L → Option (List ℕ)) → (L → Option (List ℕ)) → (L → Option (List ℕ)) → (L → ℕ) → Next L → Type 0
  HandsFresh left taken given faults (next.Link link) = IsFresh (record { left = left link; taken = taken link; given = given link; faults = faults link })
  HandsFresh left taken given faults next.Closed = ⊤
  HandsFresh left taken given faults next.Failed = ⊤

  -- the count of faults rose where the call failed, and nowhere else
  abbrev pub IsNextCause : ℕ → ℕ → Next L → Type 0
  IsNextCause before now (next.Link link) = now ≡ before
  IsNextCause before now next.Closed = now ≡ before
  IsNextCause before now next.Failed = (before ≤ now) × HasRisen before now

-- the count of faults rose where the call failed, and nowhere else
abbrev pub IsOpenCause : ℕ → ℕ → Opened → Type 0
IsOpenCause before now opened.Ready = now ≡ before
IsOpenCause before now opened.Failed = (before ≤ now) × HasRisen before now
