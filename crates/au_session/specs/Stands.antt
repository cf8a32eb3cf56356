-- What a door stands for.
use Rattle.std.specs.Prelude.{◌≡◌, ℕ, ◌+◌, ◌-◌, Bool, true, false, if◌then◌else◌, List, [], ◌∷◌, ◌++◌, length, Option, None, Some}
use Rattle.std.proofs.Common.{zero, suc}
use Rattle.au_io.specs.Faults.{HasRisen}
use Rattle.au_base.specs.declared.numbers.ClientNo.{ClientNo}
use Rattle.au_io.specs.Visits.{Visits}
use Rattle.au_session.specs.declared.drawn.DoorEntry.{DoorEntry}
use Rattle.au_session.specs.declared.drawn.DoorEntry.TheVariants.{Opened, Drew}

-- the entries of the first draws, which have the numbers from 1 on
abbrev pub drew : ℕ → List DoorEntry
drew zero = []
drew (suc n) = drew n ++ Drew (record { 0 = suc n }) ∷ []

-- how many connections the lobby had handed out and finished before the door was opened to it
abbrev pub HadBefore : Option Visits → ℕ → ℕ → ℕ → ℕ → Type 0
HadBefore None drawn back handed finished = (handed ≡ 0) × (finished ≡ 0)
HadBefore (Some v) drawn back handed finished = (v.handed ≡ handed + drawn) × (length v.finished ≡ finished + back)

-- The door stands for these entries: its opening to a lobby with these counts, and one draw for each connection that it drew.
-- The lobby's count of faults is still that one, or rose where the door has failed.
pub record DoorStands (visits : Option Visits) (faults drawn back : ℕ) (failed : Bool) (entries : List DoorEntry) : Type 0 where
  pub handed : ℕ
  pub finished : ℕ
  pub count : ℕ
  pub list : entries ≡ Opened handed finished count ∷ drew drawn
  pub before : HadBefore visits drawn back handed finished
  pub sound : failed ≡ false → count ≡ faults
  pub rose : failed ≡ true → HasRisen count faults

-- how many connections the lobby had handed out when none was drawn
abbrev pub handed_before : Option Visits → ℕ → ℕ
handed_before None drawn = 0
handed_before (Some v) drawn = v.handed - drawn

-- how many connections the lobby had finished when none had come back
abbrev pub finished_before : Option Visits → ℕ → ℕ
finished_before None back = 0
finished_before (Some v) back = length v.finished - back

-- the entries of a door as it is
abbrev pub first_of : Option Visits → ℕ → ℕ → ℕ → Bool → List DoorEntry
first_of visits faults drawn back failed =
    Opened (handed_before visits drawn) (finished_before visits back) (if failed then 0 else faults) ∷ drew drawn

-- the entry of the number that was drawn, or none
abbrev pub drawn_entries : Option ClientNo → List DoorEntry
drawn_entries None = []
drawn_entries (Some n) = Drew n ∷ []

-- the number of what was drawn
abbrev pub drawn_number : {L : Type 0} → Option (ClientNo × L) → Option ClientNo
drawn_number None = None
drawn_number (Some drawn) = Some drawn.0
