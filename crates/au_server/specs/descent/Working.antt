-- What workers keep.
use Rattle.std.specs.Prelude.{◌≡◌, ◌<◌, ℕ, List, length, slice_index_or}
use Rattle.au_turn.specs.declared.turn.Turn.{Turn}
use Rattle.au_turn.specs.declared.pass.Pass.{Pass}
use Rattle.au_turn.specs.Pass.{IsIdle, IsPassOf}

-- both passes are of their turns, and hold nothing
pub record HoldsNothing {A E B F : Type 0} (doors : Turn A E) (stores : Turn B F) (at_door : Pass A E) (at_store : Pass B F) : Type 0 where
  pub door : IsPassOf doors at_door
  pub door_idle : IsIdle at_door
  pub store : IsPassOf stores at_store
  pub store_idle : IsIdle at_store

-- a worker's turns are as they were, and its passes of them hold nothing
pub record WorkedOn {A E B F : Type 0} (doors : Turn A E) (stores : Turn B F) (doors_now : Turn A E) (stores_now : Turn B F) (at_door : Pass A E) (at_store : Pass B F) : Type 0 where
  pub doors_same : doors_now ≡ doors
  pub stores_same : stores_now ≡ stores
  pub ready : HoldsNothing doors stores at_door at_store

-- each element and the one at its place in the other list are so related
abbrev pub EachPair : {X : Type 0} → (X → X → Type 0) → List X → List X → Type 0
EachPair {X} R xs ys = (k : ℕ) (d : X) → k < length xs → R (slice_index_or xs k d) (slice_index_or ys k d)
