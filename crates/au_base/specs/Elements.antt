-- What tests and writes of elements do to a list.
use Rattle.std.specs.Prelude.{◌≡◌, Bool, List, ◌++◌, length, take, drop}

-- the elements with these written over them from the front on; as many stay as there were
abbrev pub rewritten : {X : Type 0} → List X → List X → List X
rewritten elements written = take (length elements) (written ++ drop (length written) elements)

-- each call of the test at an element answers as the function does, and leaves the test as it was
abbrev pub Computes : {F X : Type 0} → (F → X → Bool → F → Type 0) → (X → Bool) → F → Type 0
Computes {F} {X} called meets test = (element : X) (answer : Bool) (after : F) → called test element answer after → (answer ≡ meets element) × (after ≡ test)
