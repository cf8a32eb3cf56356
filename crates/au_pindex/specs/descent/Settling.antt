-- What an edit makes of buckets.
use Rattle.std.specs.Prelude.{◌≡◌, ◌<◌, ℕ, true, List, Option, Some, None, Vec, length}
use Rattle.std.specs.BTreeMap.{BTreeMap}
use Rattle.std.specs.Cmp.Lexicographic.{slice_cmp}
use Rattle.std.specs.Global.{Global}
use Rattle.std.specs.List.{AllByRecursion}
use Rattle.std.specs.Ordering.{nat_cmp}
use Rattle.au_base.specs.declared.table.TableName.{TableName}
use Rattle.au_pindex.specs.Buckets.{is_in_bucket}
use Rattle.au_pindex.specs.declared.bucketed.Bucketed.{Bucketed}
use Rattle.au_pindex.specs.declared.shift.Shift.{Shift}
use Rattle.au_pindex.specs.declared.staged.Joining.{Joining}
use Rattle.au_pindex.specs.descent.Adding.{AddsPolicy}
use Rattle.au_pindex.specs.descent.Rooms.{KeepsRoom}
use Rattle.au_pindex.specs.descent.Shifting.{AreShifted}
use Rattle.au_pindex.specs.Indexing.{table_cmp}

-- the places of buckets shift, where they do, and no bucket has less room
abbrev pub AreShiftedBy : Option Shift → Bucketed → Bucketed → Type 0
AreShiftedBy None old new = new ≡ old
AreShiftedBy (Some shift) old new = AreShifted shift old new × KeepsRoom old new

-- the place of a policy joins buckets, where one does
abbrev pub AreJoinedBy : Option Joining → Bucketed → Bucketed → Type 0
AreJoinedBy None old new = new ≡ old
AreJoinedBy (Some joining) old new = AddsPolicy true joining.policy joining.place old new

-- the buckets have the same places
pub record HaveSamePlaces (old new : Bucketed) : Type 0 where
  pub actions : (code at : ℕ) → is_in_bucket nat_cmp new.actions code at ≡ is_in_bucket nat_cmp old.actions code at
  pub tables : (table : TableName) (at : ℕ) → is_in_bucket table_cmp new.tables table at ≡ is_in_bucket table_cmp old.tables table at
  pub privileges : (code at : ℕ) → is_in_bucket nat_cmp new.privileges code at ≡ is_in_bucket nat_cmp old.privileges code at
  pub roles : (role : List ℕ) (at : ℕ) → is_in_bucket (slice_cmp nat_cmp) new.roles role at ≡ is_in_bucket (slice_cmp nat_cmp) old.roles role at

-- each bucket has a place
abbrev pub NoneIsEmpty : {K : Type 0} → BTreeMap K (Vec ℕ Global) → Type 0
NoneIsEmpty {K} buckets = AllByRecursion (λ entry. 0 < length entry.1.items) buckets.entries

-- each bucket of all keys has a place
pub record AllHavePlaces (buckets : Bucketed) : Type 0 where
  pub actions : NoneIsEmpty buckets.actions
  pub tables : NoneIsEmpty buckets.tables
  pub privileges : NoneIsEmpty buckets.privileges
  pub roles : NoneIsEmpty buckets.roles

-- places shift and then a place joins, and buckets that have no place go
abbrev pub AreEdited : Option Shift → Option Joining → Bucketed → Bucketed → Type 0
AreEdited shift joining old new = (between : Bucketed) × (joined : Bucketed) × AreShiftedBy shift old between × AreJoinedBy joining between joined × HaveSamePlaces joined new
