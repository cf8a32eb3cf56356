-- Which statements a policy is for, and for whom it is enabled (Database Security Guide, "Auditing Activities with
-- Unified Audit Policies"; the modes of enablement are this project's profile).
use Rattle.std.specs.Prelude.{ℕ, Bool, true, false, not, ◌&&◌, ◌||◌, ◌==◌, if◌then◌else◌, List, Option, Some, None}
use Rattle.std.specs.List.{list_any}
use Rattle.std.specs.Str.{bytes_eq}
use Rattle.au_base.specs.declared.action.Action.{Action}
use Rattle.au_base.specs.declared.action.Action.TheVariants.{All}
use Rattle.au_base.specs.declared.code.Code.{Code}
use Rattle.au_base.specs.declared.privilege.Privilege.{Privilege}
use Rattle.au_base.specs.declared.table.TableName.{TableName}
use Rattle.au_base.specs.Sameness.{same_action, same_privilege, same_table}
use Rattle.au_entries.specs.declared.policy.AuditPolicy.{AuditPolicy}
use Rattle.au_entries.specs.declared.policy.Enabled.{Enabled}
use Rattle.au_entries.specs.declared.policy.Enabled.TheVariants.{Off, By, Except}
use Rattle.au_entries.specs.declared.policy.Outcomes.{Outcomes}
use Rattle.au_entries.specs.declared.facts.Facts.{Facts}
use Rattle.au_grants.specs.declared.grants.Grants.{Grants}
use Rattle.au_grants.specs.Holding.{grants_privilege}

-- the part names this action, or ALL
abbrev pub names_action : Action → Action → Bool
names_action action part = same_action part action || same_action part All

-- the part has no table, or one of the statement's
abbrev pub names_table : List TableName → Option TableName → Bool
names_table tables None = true
names_table tables (Some table) = list_any (same_table table) tables

-- an action part names the action, and an object action part one of the tables too
abbrev pub covers_action : Facts → Action × Option TableName → Bool
covers_action facts part = names_action facts.action part.0 && names_table facts.tables part.1

-- the privilege was used
abbrev pub covers_privilege : Facts → Privilege → Bool
covers_privilege facts privilege = list_any (same_privilege privilege) facts.used

-- some privilege that was used is granted directly to the role
abbrev pub covers_role : Grants → Facts → List ℕ → Bool
covers_role grants facts role = list_any (λ privilege. list_any (grants_privilege role privilege) grants.system) facts.used

-- some part of the policy meets the statement
abbrev pub parts_match : Grants → Facts → AuditPolicy → Bool
parts_match grants facts policy =
    list_any (covers_action facts) policy.actions || (list_any (covers_privilege facts) policy.privileges || list_any (covers_role grants facts) policy.roles)

-- the outcome of a statement with this code is among these
abbrev pub has_outcome : Outcomes → Code → Bool
has_outcome outcomes code = if code.0 == 0 then outcomes.success else outcomes.failure

-- the entry lists this user at this outcome
abbrev pub lists_outcome : List ℕ → Code → List ℕ × Outcomes → Bool
lists_outcome user code entry = bytes_eq entry.0 user && has_outcome entry.1 code

-- the policy is enabled for a statement of this user with this code
abbrev pub is_enabled_for : Enabled → List ℕ → Code → Bool
is_enabled_for Off user code = false
is_enabled_for (By users) user code = list_any (lists_outcome user code) users
is_enabled_for (Except users outcomes) user code = not (list_any (bytes_eq user) users) && has_outcome outcomes code
