-- Places that change as policies come and go.
use Rattle.std.specs.Prelude.{◌≡◌, ℕ, ◌+◌, ◌-◌, ◌^◌, ◌==◌, ◌&&◌, nat_lt, List, Option, Some, None, if◌then◌else◌}
use Rattle.std.specs.BTreeSet.{contains}
use Rattle.std.specs.Cmp.Lexicographic.{slice_cmp}
use Rattle.std.specs.Ordering.{nat_cmp}
use Rattle.au_base.specs.declared.table.TableName.{TableName}
use Rattle.au_pindex.specs.Buckets.{is_in_bucket}
use Rattle.au_pindex.specs.declared.bucketed.Bucketed.{Bucketed}
use Rattle.au_pindex.specs.declared.shift.Shift.{Shift}
use Rattle.au_pindex.specs.declared.shift.Shift.TheVariants.{Opens, Closes, Leaves}
use Rattle.au_pindex.specs.Indexing.{table_cmp}
use Rattle.au_pindex.specs.Places.{passes}

-- where what stands at a place afterwards stood before, where it stood in buckets and still does
abbrev pub came_from : Shift → ℕ → Option ℕ
came_from (Opens place) at = if nat_lt at place then Some at else (if at == place then None else Some (at - 1))
came_from (Closes place) at = if nat_lt at place then Some at else Some (at + 1)
came_from (Leaves places) at = if contains nat_cmp places at then None else Some at

-- A place stands in a bucket exactly where the place that it came from did. Places are below 2 ^ 64.
pub record AreShifted (shift : Shift) (old new : Bucketed) : Type 0 where
  pub actions : (code at : ℕ) → is_in_bucket nat_cmp new.actions code at ≡ (nat_lt at (2 ^ 64) && passes (is_in_bucket nat_cmp old.actions code) (came_from shift at))
  pub tables : (table : TableName) (at : ℕ) → is_in_bucket table_cmp new.tables table at ≡ (nat_lt at (2 ^ 64) && passes (is_in_bucket table_cmp old.tables table) (came_from shift at))
  pub privileges : (code at : ℕ) → is_in_bucket nat_cmp new.privileges code at ≡ (nat_lt at (2 ^ 64) && passes (is_in_bucket nat_cmp old.privileges code) (came_from shift at))
  pub roles : (role : List ℕ) (at : ℕ) → is_in_bucket (slice_cmp nat_cmp) new.roles role at ≡ (nat_lt at (2 ^ 64) && passes (is_in_bucket (slice_cmp nat_cmp) old.roles role) (came_from shift at))
