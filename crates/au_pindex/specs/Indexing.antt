-- When an index is that of a catalogue.
use Rattle.std.specs.Prelude.{◌≡◌, ◌&&◌, ℕ, Bool, List, [], map, Option, option_map}
use Rattle.std.specs.Cmp.Lexicographic.{slice_cmp}
use Rattle.std.specs.Ordering.{nat_cmp, ordering_then}
use Rattle.std.specs.declared.cmp.Ordering.{Ordering}
use Rattle.au_base.specs.declared.action.Action.{Action}
use Rattle.au_base.specs.declared.privilege.Privilege.{Privilege}
use Rattle.au_base.specs.declared.table.TableName.{TableName}
use Rattle.au_base.specs.Actions as actions
use Rattle.au_base.specs.Privileges as privileges
use Rattle.au_catalog.specs.declared.catalog.Catalog.{Catalog}
use Rattle.au_entries.specs.declared.policy.AuditPolicy.{AuditPolicy}
use Rattle.au_entries.specs.declared.policy.Enabled.{Enabled}
use Rattle.au_expr.specs.declared.placed.Placed.{Placed}
use Rattle.au_expr.specs.Resolving.{placed}
use Rattle.au_pindex.specs.Buckets.{is_in_bucket}
use Rattle.au_pindex.specs.declared.bucketed.Bucketed.{Bucketed}
use Rattle.au_pindex.specs.declared.index.Index.{Index}
use Rattle.au_pindex.specs.Naming.{has_action_part, has_object_part, has_privilege_part, has_role_part, is_enabled}
use Rattle.au_pindex.specs.Places.{passes_at}

-- tables by their owners, and then by their names
abbrev pub table_cmp : TableName → TableName → Ordering
table_cmp a b = ordering_then (slice_cmp nat_cmp a.owner b.owner) (slice_cmp nat_cmp a.name b.name)

-- the policy isn't Off, and names the key
abbrev pub is_listed : {K : Type 0} → (K → AuditPolicy → Bool) → List (List ℕ × Enabled) → K → AuditPolicy → Bool
is_listed {K} names enabled key policy = is_enabled enabled policy && names key policy

-- A place stands in the bucket of a key exactly where the policy at that place isn't Off and names the key: an action part
-- without a table an action, an object part a table, a privilege part a privilege, and a role part a role.
pub record AreBucketsOf (enabled : List (List ℕ × Enabled)) (policies : List AuditPolicy) (buckets : Bucketed) : Type 0 where
  pub actions : (action : Action) (place : ℕ) → is_in_bucket nat_cmp buckets.actions (actions.code_of action) place ≡ passes_at (is_listed has_action_part enabled action) policies place
  pub tables : (table : TableName) (place : ℕ) → is_in_bucket table_cmp buckets.tables table place ≡ passes_at (is_listed has_object_part enabled table) policies place
  pub privileges : (privilege : Privilege) (place : ℕ) → is_in_bucket nat_cmp buckets.privileges (privileges.code_of privilege) place ≡ passes_at (is_listed has_privilege_part enabled privilege) policies place
  pub roles : (role : List ℕ) (place : ℕ) → is_in_bucket (slice_cmp nat_cmp) buckets.roles role place ≡ passes_at (is_listed has_role_part enabled role) policies place

-- the condition of the policy, where it has one, resolved over no table
abbrev pub condition_of : AuditPolicy → Option Placed
condition_of policy = option_map (λ when. placed [] when.1.tree) policy.when

-- The index is that of the catalogue: its buckets are, and it has the condition of each policy, resolved.
pub record IsIndexOf (catalog : Catalog) (index : Index) : Type 0 where
  pub buckets : AreBucketsOf catalog.enabled catalog.policies index.buckets
  pub conditions : index.conditions.items ≡ map condition_of catalog.policies
