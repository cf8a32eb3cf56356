-- What is written more than once counts once.
use Rattle.std.specs.Prelude.{Bool, not, List, [], ◌∷◌}
use Rattle.std.specs.List.{filter}

-- the things as they are first written, each once; the test says which two are the same
abbrev pub once : {X : Type 0} → (X → X → Bool) → List X → List X
once same [] = []
once same (thing ∷ things) = thing ∷ filter (λ other. not (same other thing)) (once same things)
