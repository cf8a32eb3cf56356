-- The byte order of names and of fields, and lists that stand in an order (the order is this project's profile).
use Rattle.std.specs.Prelude.{ℕ, List, [], ◌∷◌, ◌++◌, ◌≡◌, ◌⊎◌, Bool, true, false, not, ◌&&◌, IsTrue}
use Rattle.std.specs.List.{Contains, filter, list_all}
use Rattle.std.specs.Ordering.{nat_cmp, is_lt}
use Rattle.std.specs.Cmp.Lexicographic.{slice_cmp}

-- the first name comes before the second in byte order
abbrev pub name_before : List ℕ → List ℕ → Bool
name_before a b = is_lt (slice_cmp nat_cmp a b)

-- the first fields come before the second: the first field in which they differ decides, in byte order
abbrev pub fields_before : List (List ℕ) → List (List ℕ) → Bool
fields_before a b = is_lt (slice_cmp (slice_cmp nat_cmp) a b)

-- a new entry among entries, behind those that come before it and before the others
abbrev pub placed : {X : Type 0} → (X → X → Bool) → X → List X → List X
placed before entry entries = filter (λ other. before other entry) entries ++ entry ∷ filter (λ other. not (before other entry)) entries

-- each entry comes before each later one, so that none stands twice
abbrev pub is_in_order : {X : Type 0} → (X → X → Bool) → List X → Bool
is_in_order before [] = true
is_in_order before (entry ∷ entries) = list_all (before entry) entries && is_in_order before entries

-- what comes before an entry comes before all that the entry comes before
abbrev pub IsTransitive : {X : Type 0} → (X → X → Bool) → Type 0
IsTransitive {X} before = (a b c : X) → IsTrue (before a b) → IsTrue (before b c) → IsTrue (before a c)

-- nothing comes before itself
abbrev pub IsIrreflexive : {X : Type 0} → (X → X → Bool) → Type 0
IsIrreflexive {X} before = (a : X) → before a a ≡ false

-- each of the entries comes before the new one or behind it
abbrev pub IsNewAmong : {X : Type 0} → (X → X → Bool) → X → List X → Type 0
IsNewAmong {X} before entry entries = (other : X) → Contains entries other → IsTrue (before other entry) ⊎ IsTrue (before entry other)
