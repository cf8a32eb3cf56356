-- Places of entries of a list, counted from one on.
use Rattle.std.specs.Prelude.{ℕ, suc, Bool, List, [], ◌∷◌, if◌then◌else◌}

-- the places of the entries that pass the test, in order, where the first entry stands at `from`
abbrev pub places_where : {X : Type 0} → (X → Bool) → ℕ → List X → List ℕ
places_where {X} test from [] = []
places_where {X} test from (x ∷ xs) = if test x then from ∷ places_where test (suc from) xs else places_where test (suc from) xs
