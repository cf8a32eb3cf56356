-- Which index an edit fits: one that has its place, and room for what is added.
use Rattle.std.specs.Prelude.{◌≤◌, ◌<◌, ⊤, Option, Some, None, Vec, length, vec_capacity, vec_len}
use Rattle.std.specs.Global.{Global}
use Rattle.au_expr.specs.declared.placed.Placed.{Placed}
use Rattle.au_pindex.specs.declared.bucketed.Bucketed.{Bucketed}
use Rattle.au_pindex.specs.declared.index.Index.{Index}
use Rattle.au_pindex.specs.declared.staged.ConditionEdit.{ConditionEdit}
use Rattle.au_pindex.specs.declared.staged.ConditionEdit.TheVariants.{Stays, Opens, Sets, Closes}
use Rattle.au_pindex.specs.declared.staged.IndexEdit.{IndexEdit}
use Rattle.au_pindex.specs.declared.staged.Joining.{Joining}
use Rattle.au_pindex.specs.descent.Rooms.{HasRoomFor}

-- the place is one of a policy, or the first that none has, and there is room for a condition more where one is added
abbrev pub FitsConditions : ConditionEdit → Vec (Option Placed) Global → Type 0
FitsConditions Stays conditions = ⊤
FitsConditions (Opens place condition) conditions = (place ≤ length conditions.items) × (vec_len conditions < vec_capacity conditions)
FitsConditions (Sets place condition) conditions = place < length conditions.items
FitsConditions (Closes place) conditions = place < length conditions.items

-- there is room for the place of the policy that joins buckets
abbrev pub FitsJoining : Option Joining → Bucketed → Type 0
FitsJoining None buckets = ⊤
FitsJoining (Some joining) buckets = HasRoomFor joining.policy buckets

-- an edit fits the index: its place is one of it, and there is room for what is added
pub record FitsEdit (edit : IndexEdit) (index : Index) : Type 0 where
  pub conditions : FitsConditions edit.condition index.conditions
  pub joining : FitsJoining edit.joining index.buckets
