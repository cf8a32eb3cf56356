-- Which audit policies name a statement, of which a statement tests no others (Database Security Guide, "Auditing Activities
-- with Unified Audit Policies").
use Rattle.std.specs.Prelude.{ℕ, Bool, false, ◌&&◌, ◌||◌, List, length, filter, Option, Some, None, is_none}
use Rattle.std.specs.List.{list_any}
use Rattle.std.specs.Str.{bytes_eq}
use Rattle.au_base.specs.declared.action.Action.{Action}
use Rattle.au_base.specs.declared.action.Action.TheVariants.{All}
use Rattle.au_base.specs.declared.privilege.Privilege.{Privilege}
use Rattle.au_base.specs.declared.table.TableName.{TableName}
use Rattle.au_base.specs.Sameness.{same_action, same_privilege, same_table}
use Rattle.au_catalog.specs.declared.catalog.Catalog.{Catalog}
use Rattle.au_entries.specs.declared.facts.Facts.{Facts}
use Rattle.au_entries.specs.declared.policy.AuditPolicy.{AuditPolicy}
use Rattle.au_entries.specs.declared.policy.Enabled.{Enabled}
use Rattle.au_entries.specs.Demand.{enablement_of}
use Rattle.au_entries.specs.Enabling.{is_on}
use Rattle.au_entries.specs.Matching.{covers_role}
use Rattle.au_grants.specs.declared.grants.Grants.{Grants}

-- ---- what the parts of a policy name

-- the part is the action, on no table
abbrev pub is_of_action : Action → Action × Option TableName → Bool
is_of_action action part = same_action part.0 action && is_none part.1

-- the part is some action on the table
abbrev pub is_on_table : TableName → Action × Option TableName → Bool
is_on_table table (action, None) = false
is_on_table table (action, Some part) = same_table part table

-- an action part without a table names the action
abbrev pub has_action_part : Action → AuditPolicy → Bool
has_action_part action policy = list_any (is_of_action action) policy.actions

-- an object part names the table
abbrev pub has_object_part : TableName → AuditPolicy → Bool
has_object_part table policy = list_any (is_on_table table) policy.actions

-- a privilege part names the system privilege
abbrev pub has_privilege_part : Privilege → AuditPolicy → Bool
has_privilege_part privilege policy = list_any (λ part. same_privilege part privilege) policy.privileges

-- a role part names the role
abbrev pub has_role_part : List ℕ → AuditPolicy → Bool
has_role_part role policy = list_any (λ part. bytes_eq part role) policy.roles

-- ---- which policies name a statement

-- The policy names the statement: an action part without a table its action or ALL, an object part one of its tables, a
-- privilege part one of the privileges used, or a role part a role to which one of these is granted directly.
abbrev pub names_statement : Grants → Facts → AuditPolicy → Bool
names_statement grants facts policy =
    has_action_part facts.action policy
    || (has_action_part All policy
    || (list_any (λ table. has_object_part table policy) facts.tables
    || (list_any (λ privilege. has_privilege_part privilege policy) facts.used
    || list_any (covers_role grants facts) policy.roles)))

-- the policy is enabled for somebody
abbrev pub is_enabled : List (List ℕ × Enabled) → AuditPolicy → Bool
is_enabled enabled policy = is_on (enablement_of enabled policy.name)

-- the policy isn't Off, and names the statement
abbrev pub is_named : Grants → List (List ℕ × Enabled) → Facts → AuditPolicy → Bool
is_named grants enabled facts policy = is_enabled enabled policy && names_statement grants facts policy

-- how many policies of the catalogue aren't Off and name the statement
abbrev pub count_named : Grants → Catalog → Facts → ℕ
count_named grants catalog facts = length (filter (is_named grants catalog.enabled facts) catalog.policies)
