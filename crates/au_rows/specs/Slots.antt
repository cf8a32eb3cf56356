-- Slots that are given and given again.
use Rattle.std.specs.Prelude.{◌≡◌, ℕ, ◌<◌, List, [], ◌∷◌, Option, None, slice_index_or, length, ⊤}
use Rattle.au_rows.specs.declared.node.Node.{Node}
use Rattle.au_rows.specs.Chains.{IsOneOf}

-- the node or nothing in each slot, and how many more nodes are taken with no allocation
pub record Stocked : Type 0 where
  pub slots : List (Option Node)
  pub room : ℕ

-- no slot comes twice
abbrev pub AllApart : List ℕ → Type 0
AllApart [] = ⊤
AllApart (slot ∷ slots) = (IsOneOf slots slot → ⊥) × AllApart slots

-- these slots have no node, and none of them comes twice
pub record Vacancies (nodes : List (Option Node)) (vacant : List ℕ) : Type 0 where
  pub within : (slot : ℕ) → IsOneOf vacant slot → slot < length nodes
  pub empty : (slot : ℕ) → IsOneOf vacant slot → slice_index_or nodes slot None ≡ None
  pub apart : AllApart vacant
