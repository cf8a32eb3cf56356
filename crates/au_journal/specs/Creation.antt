-- The states between two syncs of a format, each by what every image holds.
use Rattle.std.specs.Prelude.{◌≡◌, ◌⊎◌, ◌≤◌, ℕ, List, [], ◌∷◌, take}
use Rattle.au_io.specs.declared.disk.Area.{Area}
use Rattle.au_io.specs.declared.disk.Area.TheVariants.{Head, A, B}
use Rattle.au_io.specs.Areas.{Areas, area_of, with_area, Torn, Cut, On}
use Rattle.au_io.specs.Disk.{Meaning}
use Rattle.au_io.specs.Faults.{HasRisen}
use Rattle.au_io.specs.Moments.{Leaves}
use Rattle.au_journal.specs.declared.formatting.Formatting.{Formatting}
use Rattle.au_journal.specs.declared.formatting.Formatting.TheVariants as format
use Rattle.au_journal.specs.Frames.{new_rest}
use Rattle.au_journal.specs.Images.{Selects, In, StandsGated}
use Rattle.au_journal.specs.Seats.{with_letter}
use Rattle.au_journal.specs.Walk.{IsFormatted, IsUnformatted}

abbrev pub IsBlank : List ℕ → Type 0
IsBlank area = IsFormatted area → ⊥

-- the selected area is formatted
abbrev pub IsSelectedFormatted : Areas → Type 0
IsSelectedFormatted all = (area : Area) × Selects area all.head × IsFormatted (area_of area all)

-- no area that isn't selected is formatted
pub record OthersAreBlank (all : Areas) : Type 0 where
  pub a : (Selects A all.head → ⊥) → IsBlank all.a
  pub b : (Selects B all.head → ⊥) → IsBlank all.b

-- a crash leaves these areas, and nothing else
abbrev pub IsOnly : Areas → Meaning → Type 0
IsOnly all m = Leaves (λ c. c ≡ all) m

-- The states of a format over areas that are all synced. Each is reached by a sync, and is then the only image.
-- A cut: area A is empty
abbrev pub a_cut : Areas → Areas
a_cut all = with_area A [] all

-- A selected: and Head has the letter of A
abbrev pub a_selected : Areas → Areas
a_selected all = with_letter A (a_cut all)

-- Gate shut: A has a closed gate and nothing else
abbrev pub gate_shut : Areas → Areas
gate_shut all = with_area A (0 ∷ []) (a_selected all)

-- Rest written: A has all that a new area has, behind a closed gate
abbrev pub rest_written : ℕ → List ℕ → Areas → Areas
rest_written limit framed all = with_area A (0 ∷ new_rest limit framed) (a_selected all)

-- and at last behind an open one
abbrev pub laid_down : ℕ → List ℕ → Areas → Areas
laid_down limit framed all = with_area A (165 ∷ new_rest limit framed) (a_selected all)

-- the area begins with a closed gate
abbrev pub IsGateShut : List ℕ → Type 0
IsGateShut area = take 1 area ≡ 0 ∷ []

-- what a crash leaves between two of these states: the step from the one to the other made in part
pub data IsOnTheWay (limit : ℕ) (framed : List ℕ) (all c : Areas) : Type 0 where
  cutting : On A (Cut 0) all c → IsOnTheWay limit framed all c
  selecting : On Head (Torn 0 1) (a_cut all) c → IsOnTheWay limit framed all c
  shutting : On A (Torn 0 1) (a_selected all) c → IsOnTheWay limit framed all c
  writing : On A (λ _ new. IsGateShut new) (gate_shut all) c → IsOnTheWay limit framed all c
  opening : On A (Torn 0 1) (rest_written limit framed all) c → IsOnTheWay limit framed all c

-- an image from before the format, or one on the way from what the disk read then: area B is never touched
abbrev pub FormatPasses : Meaning → ℕ → List ℕ → Areas → Type 0
FormatPasses old limit framed all = old.images all ⊎ IsOnTheWay limit framed old.reads all

-- a new area: it stands for its one body, and a closed gate comes behind
abbrev pub IsNew : ℕ → List ℕ → List ℕ → Type 0
IsNew limit body area = StandsGated limit (body ∷ []) area

-- an image from before the format, or one on the way to the new area
abbrev pub FormatLeaves : Meaning → ℕ → List ℕ → Areas → Type 0
FormatLeaves old limit body all = old.images all ⊎ (IsUnformatted all ⊎ In A (IsNew limit body) all)

abbrev pub FormatCause : Formatting → ℕ → ℕ → Type 0
FormatCause format.Done before now = now ≡ before
FormatCause format.Formatted before now = now ≡ before
FormatCause format.Disk before now = (before ≤ now) × HasRisen before now
