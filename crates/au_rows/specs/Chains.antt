-- The versions of one hash are a chain, each naming the slot of the next.
use Rattle.std.specs.Prelude.{◌≡◌, ◌≢◌, ◌⊎◌, ◌==◌, ℕ, Bool, false, List, [], ◌∷◌, Option, Some, None, map, slice_index_or}
use Rattle.au_rows.specs.declared.node.Node.{Node}
use Rattle.au_rows.specs.declared.version.Version.{Version}

abbrev pub version_of : Option Node → Option Version
version_of None = None
version_of (Some node) = Some node.version

-- the version in each slot
abbrev pub versions_of : List (Option Node) → List (Option Version)
versions_of nodes = map version_of nodes

-- it is this slot
abbrev pub is_slot : ℕ → Option ℕ → Bool
is_slot slot None = false
is_slot slot (Some named) = named == slot

-- the slot is one of these
abbrev pub IsOneOf : List ℕ → ℕ → Type 0
IsOneOf [] slot = ⊥
IsOneOf (first ∷ slots) slot = (slot ≡ first) ⊎ IsOneOf slots slot

-- these are the slots from the first on, each with a version of the hash, and the last names none
abbrev pub IsChain : List (Option Node) → ℕ → Option ℕ → List ℕ → Type 0
IsChain nodes hash first [] = first ≡ None
IsChain nodes hash first (slot ∷ slots) =
    (first ≡ Some slot) × (node : Node) × (slice_index_or nodes slot None ≡ Some node) × (node.version.hash ≡ hash)
    × IsChain nodes hash node.below slots

-- each hash has a chain, from its head on, in which all versions of the hash stand
pub record Chained (nodes : List (Option Node)) (heads : ℕ → Option ℕ) : Type 0 where
  pub chain : ℕ → List ℕ
  pub linked : (hash : ℕ) → IsChain nodes hash (heads hash) (chain hash)
  pub complete : (slot : ℕ) (node : Node) → slice_index_or nodes slot None ≡ Some node → IsOneOf (chain node.version.hash) slot

-- the node names another slot below it, and no other node changes
pub record Relinks (old new : List (Option Node)) (slot : ℕ) (below : Option ℕ) : Type 0 where
  pub moved : (node : Node) → slice_index_or old slot None ≡ Some node → slice_index_or new slot None ≡ Some (record { version = node.version; below = below })
  pub others : (other : ℕ) → other ≢ slot → slice_index_or new other None ≡ slice_index_or old other None

-- the slot is vacant after, and no other slot changes
pub record Empties (old new : List (Option Node)) (slot : ℕ) : Type 0 where
  pub vacant : slice_index_or new slot None ≡ None
  pub others : (other : ℕ) → other ≢ slot → slice_index_or new other None ≡ slice_index_or old other None
