-- What an edit makes of places and of conditions, and between which policies and enablements it leads.
use Rattle.std.specs.Prelude.{◌≡◌, ◌+◌, ◌++◌, ◌∷◌, ◌==◌, ◌&&◌, ◌||◌, ℕ, Bool, false, List, Option, Some, None, drop, map, take}
use Rattle.au_base.specs.declared.action.Action.{Action}
use Rattle.au_base.specs.declared.privilege.Privilege.{Privilege}
use Rattle.au_base.specs.declared.table.TableName.{TableName}
use Rattle.au_entries.specs.declared.policy.AuditPolicy.{AuditPolicy}
use Rattle.au_entries.specs.declared.policy.Enabled.{Enabled}
use Rattle.au_expr.specs.declared.placed.Placed.{Placed}
use Rattle.au_pindex.specs.declared.shift.Shift.{Shift}
use Rattle.au_pindex.specs.declared.staged.ConditionEdit.{ConditionEdit}
use Rattle.au_pindex.specs.declared.staged.ConditionEdit.TheVariants.{Stays, Opens, Sets, Closes}
use Rattle.au_pindex.specs.declared.staged.IndexEdit.{IndexEdit}
use Rattle.au_pindex.specs.declared.staged.Joining.{Joining}
use Rattle.au_pindex.specs.Indexing.{condition_of, is_listed}
use Rattle.au_pindex.specs.Naming.{has_action_part, has_object_part, has_privilege_part, has_role_part}
use Rattle.au_pindex.specs.Places.{passes, passes_at}
use Rattle.au_pindex.specs.descent.Shifting.{came_from}

-- where what stands at a place afterwards stood before, where places shift
abbrev pub shifted_from : Option Shift → ℕ → Option ℕ
shifted_from None at = Some at
shifted_from (Some shift) at = came_from shift at

-- the place is that of the policy that joins buckets, which names the key
abbrev pub is_joined : {K : Type 0} → (K → AuditPolicy → Bool) → Option Joining → K → ℕ → Bool
is_joined {K} names None key at = false
is_joined {K} names (Some joining) key at = names key joining.policy && (joining.place == at)

-- the conditions after an edit
abbrev pub conditions_after : ConditionEdit → List (Option Placed) → List (Option Placed)
conditions_after Stays conditions = conditions
conditions_after (Opens place condition) conditions = take place conditions ++ condition ∷ drop place conditions
conditions_after (Sets place condition) conditions = take place conditions ++ condition ∷ drop (place + 1) conditions
conditions_after (Closes place) conditions = take place conditions ++ drop (place + 1) conditions

-- The enabled policies that name a key stand, afterwards, at the place that joins its bucket and at those that came from a
-- place of one that named it before; and the conditions of the policies are those after the edit.
pub record Leads (enabled : List (List ℕ × Enabled)) (policies : List AuditPolicy) (later : List (List ℕ × Enabled)) (changed : List AuditPolicy) (edit : IndexEdit) : Type 0 where
  pub actions : (action : Action) (at : ℕ) → passes_at (is_listed has_action_part later action) changed at ≡ (is_joined has_action_part edit.joining action at || passes (passes_at (is_listed has_action_part enabled action) policies) (shifted_from edit.shift at))
  pub tables : (table : TableName) (at : ℕ) → passes_at (is_listed has_object_part later table) changed at ≡ (is_joined has_object_part edit.joining table at || passes (passes_at (is_listed has_object_part enabled table) policies) (shifted_from edit.shift at))
  pub privileges : (privilege : Privilege) (at : ℕ) → passes_at (is_listed has_privilege_part later privilege) changed at ≡ (is_joined has_privilege_part edit.joining privilege at || passes (passes_at (is_listed has_privilege_part enabled privilege) policies) (shifted_from edit.shift at))
  pub roles : (role : List ℕ) (at : ℕ) → passes_at (is_listed has_role_part later role) changed at ≡ (is_joined has_role_part edit.joining role at || passes (passes_at (is_listed has_role_part enabled role) policies) (shifted_from edit.shift at))
  pub conditions : map condition_of changed ≡ conditions_after edit.condition (map condition_of policies)
