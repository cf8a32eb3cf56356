-- Places in a list, from 0.
use Rattle.std.specs.Prelude.{ℕ, Bool, false, List, Option, Some, None}
use Rattle.std.specs.List.{slice_get}

-- there is an entry, and it passes the test
abbrev pub passes : {X : Type 0} → (X → Bool) → Option X → Bool
passes {X} test None = false
passes {X} test (Some x) = test x

-- there is an entry at the place, and it passes the test
abbrev pub passes_at : {X : Type 0} → (X → Bool) → List X → ℕ → Bool
passes_at {X} test xs place = passes test (slice_get xs place)
