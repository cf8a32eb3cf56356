-- A script as lines.
use Rattle.std.specs.Prelude.{◌≡◌, ◌≢◌, ◌⊎◌, ◌<◌, ℕ, ◌+◌, List, [], ◌∷◌, ◌++◌, flat_map, length, All, Option}
use Rattle.std.specs.Io.KnownBytes.{IsAtEnd}
use Rattle.std.specs.List.{AllByRecursion}
use Rattle.au_script.specs.Lines.{line_limit}

-- the byte that ends a line
abbrev pub LF : ℕ
LF = 10

-- no byte ends a line
abbrev pub HasNoEnd : List ℕ → Type 0
HasNoEnd bytes = All (λ b. b ≢ LF) bytes

-- none of the lines has an end within it
abbrev pub AreLines : List (List ℕ) → Type 0
AreLines lines = AllByRecursion HasNoEnd lines

-- a line with the LF that ends it
abbrev pub with_end : List ℕ → List ℕ
with_end line = line ++ LF ∷ []

-- lines one after another, each with its end
abbrev pub ended : List (List ℕ) → List ℕ
ended lines = flat_map with_end lines

-- what stands behind the last end is a line, unless it is nothing
abbrev pub last_line : List ℕ → List (List ℕ)
last_line [] = []
last_line (b ∷ rest) = (b ∷ rest) ∷ []

-- the bytes begin with these lines; where they are all the bytes, the last one may lack its end
abbrev pub BeginsWithLines : List (List ℕ) → List ℕ → Type 0
BeginsWithLines lines bytes = ((rest : List ℕ) × (bytes ≡ ended lines ++ rest)) ⊎ (with_end bytes ≡ ended lines)

-- the bytes that were taken begin with these lines; the last one may lack its end, where nothing is left
abbrev pub TakenLines : List (List ℕ) → List ℕ → Option (List ℕ) → Type 0
TakenLines lines got now = ((rest : List ℕ) × (got ≡ ended lines ++ rest)) ⊎ ((with_end got ≡ ended lines) × IsAtEnd now)

-- so much of a line was taken: it and its end, or all of it, where nothing is left, or more than a line with its CR may have
abbrev pub TakenOf : List ℕ → List ℕ → Option (List ℕ) → Type 0
TakenOf line got now =
    ((rest : List ℕ) × (got ≡ line ++ LF ∷ rest))
    ⊎ (((got ≡ line) × IsAtEnd now)
    ⊎ ((rest : List ℕ) × (line ≡ got ++ rest) × (line_limit + 1 < length got)))

-- the most bytes of a script
abbrev pub script_limit : ℕ
script_limit = 4_294_967_295
