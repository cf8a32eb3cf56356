-- Lists of entries: which stand in which, and which begin which.
use Rattle.std.specs.Prelude.{nat_le, if◌then◌else◌, List, [], ◌∷◌, length}
use mathlib.Core.List.{IsPrefix}

module _ {E : Type 0} where
  -- the entries of the first list stand in the second in order, each at a place of its own
  pub data StandsIn : List E → List E → Type 0 where
    stands_none : StandsIn [] []
    stands_later : (entry : E) (made history : List E) → StandsIn made history → StandsIn made (entry ∷ history)
    stands_here : (entry : E) (made history : List E) → StandsIn made history → StandsIn (entry ∷ made) (entry ∷ history)

  -- each of these lists begins the history
  abbrev pub AllBegin : List (List E) → List E → Type 0
  AllBegin [] history = Unit {0}
  AllBegin (list ∷ lists) history = IsPrefix list history × AllBegin lists history

  -- the one of two lists that has more entries, the first where both have as many
  abbrev pub longer : List E → List E → List E
  longer one other = if nat_le (length other) (length one) then one else other
