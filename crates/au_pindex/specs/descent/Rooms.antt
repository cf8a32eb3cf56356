-- Room for places in the buckets of what a policy names.
use Rattle.std.specs.Prelude.{◌≡◌, ◌==◌, ◌||◌, ◌≤◌, ◌<◌, ℕ, ◌-◌, Bool, true, false, nat_lt, List, Option, Some, None, Vec, length, vec_capacity, vec_len}
use Rattle.std.specs.BTreeMap.{BTreeMap, get}
use Rattle.std.specs.Cmp.Lexicographic.{slice_cmp}
use Rattle.std.specs.Global.{Global}
use Rattle.std.specs.Ordering.{nat_cmp}
use Rattle.std.specs.declared.cmp.Ordering.{Ordering}
use Rattle.au_base.specs.declared.action.Action.{Action}
use Rattle.au_base.specs.declared.privilege.Privilege.{Privilege}
use Rattle.au_base.specs.declared.table.TableName.{TableName}
use Rattle.au_base.specs.Actions as actions
use Rattle.au_base.specs.Privileges as privileges
use Rattle.au_entries.specs.declared.policy.AuditPolicy.{AuditPolicy}
use Rattle.au_pindex.specs.Buckets.{is_in_bucket}
use Rattle.au_pindex.specs.declared.bucketed.Bucketed.{Bucketed}
use Rattle.au_pindex.specs.Indexing.{table_cmp}
use Rattle.au_pindex.specs.Naming.{has_action_part, has_object_part, has_privilege_part, has_role_part}
use Rattle.au_pindex.specs.Places.{passes_at}

-- how many more places a bucket takes in the room that it has: none where there is no bucket
abbrev pub room_of : Option (Vec ℕ Global) → ℕ
room_of None = 0
room_of (Some bucket) = vec_capacity bucket - vec_len bucket

-- how many more places the bucket of the key takes in the room that it has
abbrev pub room_in : {K : Type 0} → (K → K → Ordering) → BTreeMap K (Vec ℕ Global) → K → ℕ
room_in {K} cmp buckets key = room_of (get cmp buckets key)

-- whether the place stands last among these
abbrev pub ends_with : ℕ → List ℕ → Bool
ends_with place items = passes_at (λ other. other == place) items (length items - 1)

-- whether a bucket takes the place in the room that it has: it ends with the place, or has room for one more
abbrev pub takes : ℕ → Option (Vec ℕ Global) → Bool
takes place None = false
takes place (Some bucket) = ends_with place bucket.items || nat_lt (vec_len bucket) (vec_capacity bucket)

-- whether the bucket of the key takes the place in the room that it has
abbrev pub takes_in : {K : Type 0} → (K → K → Ordering) → BTreeMap K (Vec ℕ Global) → K → ℕ → Bool
takes_in {K} cmp buckets key place = takes place (get cmp buckets key)

-- the buckets that took the place take it still
abbrev pub StillTake : {K : Type 0} → (K → K → Ordering) → ℕ → BTreeMap K (Vec ℕ Global) → BTreeMap K (Vec ℕ Global) → Type 0
StillTake {K} cmp place old new = (key : K) → takes_in cmp old key place ≡ true → takes_in cmp new key place ≡ true

-- the bucket of each key that the policy names has room for one more place
pub record HasRoomFor (policy : AuditPolicy) (buckets : Bucketed) : Type 0 where
  pub actions : (action : Action) → has_action_part action policy ≡ true → 0 < room_in nat_cmp buckets.actions (actions.code_of action)
  pub tables : (table : TableName) → has_object_part table policy ≡ true → 0 < room_in table_cmp buckets.tables table
  pub privileges : (privilege : Privilege) → has_privilege_part privilege policy ≡ true → 0 < room_in nat_cmp buckets.privileges (privileges.code_of privilege)
  pub roles : (role : List ℕ) → has_role_part role policy ≡ true → 0 < room_in (slice_cmp nat_cmp) buckets.roles role

-- no bucket has less room than it had
pub record KeepsRoom (old new : Bucketed) : Type 0 where
  pub actions : (code : ℕ) → room_in nat_cmp old.actions code ≤ room_in nat_cmp new.actions code
  pub tables : (table : TableName) → room_in table_cmp old.tables table ≤ room_in table_cmp new.tables table
  pub privileges : (code : ℕ) → room_in nat_cmp old.privileges code ≤ room_in nat_cmp new.privileges code
  pub roles : (role : List ℕ) → room_in (slice_cmp nat_cmp) old.roles role ≤ room_in (slice_cmp nat_cmp) new.roles role

-- buckets have the places that they had, and no less room
pub record KeepPlaces {K : Type 0} (cmp : K → K → Ordering) (old new : BTreeMap K (Vec ℕ Global)) : Type 0 where
  pub places : (key : K) (at : ℕ) → is_in_bucket cmp new key at ≡ is_in_bucket cmp old key at
  pub rooms : (key : K) → room_in cmp old key ≤ room_in cmp new key

-- all buckets have the places that they had
pub record KeepAllPlaces (old new : Bucketed) : Type 0 where
  pub actions : KeepPlaces nat_cmp old.actions new.actions
  pub tables : KeepPlaces table_cmp old.tables new.tables
  pub privileges : KeepPlaces nat_cmp old.privileges new.privileges
  pub roles : KeepPlaces (slice_cmp nat_cmp) old.roles new.roles
