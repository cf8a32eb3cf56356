-- Lists in order, and new entries that stand in order apart from them until there are many.
use Rattle.std.specs.Prelude.{◌≡◌, ◌+◌, ◌≤◌, ◌<◌, ℕ, List, [], ◌∷◌, Bool, IsTrue, length, vec_capacity}
use Rattle.std.specs.List.{filter}
use Rattle.au_grants.specs.declared.change.GrantChange.{GrantChange}
use Rattle.au_grants.specs.declared.growing.GrowingLists.{GrowingLists}
use Rattle.au_grants.specs.declared.kind.Kind.TheVariants as K
use Rattle.au_grants.specs.descent.Editing.{KeepsCapacity, adds}
use Rattle.au_grants.specs.Order.{fields_before, is_in_order, object_before, placed, role_before, system_before}
use Rattle.au_grants.specs.Rights.{Grants}

-- the first entry comes before the second, by their fields
abbrev pub before_by : {X : Type 0} → (X → List (List ℕ)) → X → X → Bool
before_by fields a b = fields_before (fields a) (fields b)

-- the entries with the new ones, each at its place
abbrev pub merged : {X : Type 0} → (X → X → Bool) → List X → List X → List X
merged before [] entries = entries
merged before (entry ∷ fresh) entries = placed before entry (merged before fresh entries)

-- the new entries stand in order, the others too, and all of them together
pub record AreReady {X : Type 0} (before : X → X → Bool) (fresh kept : List X) : Type 0 where
  pub new : IsTrue (is_in_order before fresh)
  pub old : IsTrue (is_in_order before kept)
  pub whole : IsTrue (is_in_order before (merged before fresh kept))

-- all grants, with the new ones
abbrev pub grown : GrowingLists → Grants
grown lists = record {
  system = merged system_before lists.fresh.system.items lists.kept.system.items;
  role = merged role_before lists.fresh.role.items lists.kept.role.items;
  object = merged object_before lists.fresh.object.items lists.kept.object.items;
}

-- the grants of each kind are ready, and nothing is being moved
pub record AreGrowing (lists : GrowingLists) : Type 0 where
  pub system : AreReady system_before lists.fresh.system.items lists.kept.system.items
  pub role : AreReady role_before lists.fresh.role.items lists.kept.role.items
  pub object : AreReady object_before lists.fresh.object.items lists.kept.object.items
  pub no_system : lists.moving.system.items ≡ []
  pub no_role : lists.moving.role.items ≡ []
  pub no_object : lists.moving.object.items ≡ []

-- there is room for so many entries in all, where they stand and where they are moved, and for a new one
pub record IsRoomy (count kept moving fresh left : ℕ) : Type 0 where
  pub stand : count ≤ kept
  pub move : count ≤ moving
  pub add : left < fresh

-- the vectors have room for a grant that each of the changes adds
pub record HasGrowth (changes : List GrantChange) (lists : GrowingLists) : Type 0 where
  pub system : IsRoomy (length (grown lists).system + length (filter (adds K.Privilege) changes)) (vec_capacity lists.kept.system) (vec_capacity lists.moving.system) (vec_capacity lists.fresh.system) (length lists.fresh.system.items)
  pub role : IsRoomy (length (grown lists).role + length (filter (adds K.Role) changes)) (vec_capacity lists.kept.role) (vec_capacity lists.moving.role) (vec_capacity lists.fresh.role) (length lists.fresh.role.items)
  pub object : IsRoomy (length (grown lists).object + length (filter (adds K.Object) changes)) (vec_capacity lists.kept.object) (vec_capacity lists.moving.object) (vec_capacity lists.fresh.object) (length lists.fresh.object.items)

-- a change leaves the vectors as large as they are, and room for a new entry
pub record KeepsGrowth (lists later : GrowingLists) : Type 0 where
  pub kept : KeepsCapacity lists.kept later.kept
  pub fresh : KeepsCapacity lists.fresh later.fresh
  pub moving : KeepsCapacity lists.moving later.moving
  pub system : length later.fresh.system.items < vec_capacity later.fresh.system
  pub role : length later.fresh.role.items < vec_capacity later.fresh.role
  pub object : length later.fresh.object.items < vec_capacity later.fresh.object
