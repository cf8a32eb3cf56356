-- What a place that joins buckets makes of them.
use Rattle.std.specs.Prelude.{◌≡◌, ◌==◌, ◌&&◌, ◌||◌, ℕ, Bool, List}
use Rattle.std.specs.Cmp.Lexicographic.{slice_cmp}
use Rattle.std.specs.Ordering.{nat_cmp}
use Rattle.au_base.specs.declared.action.Action.{Action}
use Rattle.au_base.specs.declared.privilege.Privilege.{Privilege}
use Rattle.au_base.specs.declared.table.TableName.{TableName}
use Rattle.au_base.specs.Actions as actions
use Rattle.au_base.specs.Privileges as privileges
use Rattle.au_entries.specs.declared.policy.AuditPolicy.{AuditPolicy}
use Rattle.au_pindex.specs.Buckets.{is_in_bucket}
use Rattle.au_pindex.specs.declared.bucketed.Bucketed.{Bucketed}
use Rattle.au_pindex.specs.Indexing.{table_cmp}
use Rattle.au_pindex.specs.Naming.{has_action_part, has_object_part, has_privilege_part, has_role_part}

-- the place, which is that of the policy, joins the buckets of all that the policy names, where it is enabled
pub record AddsPolicy (enabled : Bool) (policy : AuditPolicy) (place : ℕ) (old new : Bucketed) : Type 0 where
  pub actions : (action : Action) (at : ℕ) → is_in_bucket nat_cmp new.actions (actions.code_of action) at ≡ (((enabled && has_action_part action policy) && (place == at)) || is_in_bucket nat_cmp old.actions (actions.code_of action) at)
  pub tables : (table : TableName) (at : ℕ) → is_in_bucket table_cmp new.tables table at ≡ (((enabled && has_object_part table policy) && (place == at)) || is_in_bucket table_cmp old.tables table at)
  pub privileges : (privilege : Privilege) (at : ℕ) → is_in_bucket nat_cmp new.privileges (privileges.code_of privilege) at ≡ (((enabled && has_privilege_part privilege policy) && (place == at)) || is_in_bucket nat_cmp old.privileges (privileges.code_of privilege) at)
  pub roles : (role : List ℕ) (at : ℕ) → is_in_bucket (slice_cmp nat_cmp) new.roles role at ≡ (((enabled && has_role_part role policy) && (place == at)) || is_in_bucket (slice_cmp nat_cmp) old.roles role at)
