-- Which policies demand a record of a statement (Database Security Guide, "Auditing Activities with Unified Audit
-- Policies" and "Mandatorily Audited Activities"; which actions are mandatory is this project's profile).
use Rattle.std.specs.Prelude.{ℕ, Bool, ◌&&◌, nat_le, if◌then◌else◌, List, map, filter, find, codes, Option, Some, None}
use Rattle.std.specs.Str.{bytes_eq}
use Rattle.au_base.specs.declared.action.Action.{Action}
use Rattle.au_base.specs.Actions.{code_of}
use Rattle.au_base.specs.Order as order
pub use Rattle.au_base.specs.Order.{name_before as comes_before}
use Rattle.au_entries.specs.declared.policy.AuditPolicy.{AuditPolicy}
use Rattle.au_entries.specs.declared.policy.Enabled.{Enabled}
use Rattle.au_entries.specs.declared.policy.Enabled.TheVariants.{Off}
use Rattle.au_entries.specs.declared.facts.Facts.{Facts}
use Rattle.au_entries.specs.Matching.{parts_match, is_enabled_for}
use Rattle.au_grants.specs.declared.grants.Grants.{Grants}

abbrev pub enablement_found : Option (List ℕ × Enabled) → Enabled
enablement_found None = Off
enablement_found (Some entry) = entry.1

-- for whom the policy of this name is enabled
abbrev pub enablement_of : List (List ℕ × Enabled) → List ℕ → Enabled
enablement_of enabled name = enablement_found (find (λ entry. bytes_eq entry.0 name) enabled)

-- the policy of this name is enabled for the statement
abbrev pub is_enabled_in : List (List ℕ × Enabled) → List ℕ → Facts → Bool
is_enabled_in enabled name facts = is_enabled_for (enablement_of enabled name) facts.user facts.code

-- what the policies are asked: their parts, their enablement, and their condition by the argument
abbrev pub demands : (AuditPolicy → Bool) → Grants → List (List ℕ × Enabled) → Facts → AuditPolicy → Bool
demands when grants enabled facts policy =
    parts_match grants facts policy && (is_enabled_in enabled policy.name facts && when policy)

-- the names of the policies that demand a record, in the order of the policies
abbrev pub demanding : (AuditPolicy → Bool) → Grants → List (List ℕ × Enabled) → List AuditPolicy → Facts → List (List ℕ)
demanding when grants enabled policies facts = map (λ policy. policy.name) (filter (demands when grants enabled facts) policies)

-- changes of policies and of enablements, and calls of packages, are audited whatever the policies say
abbrev pub is_mandatory : Action → Bool
is_mandatory action = nat_le 16 (code_of action) && nat_le (code_of action) 20

-- a name among names, behind those that come before it
abbrev pub placed : List ℕ → List (List ℕ) → List (List ℕ)
placed name names = order.placed comes_before name names

-- the names of all policies that demand a record, in byte order where the policies stand so
abbrev pub demanded : (AuditPolicy → Bool) → Grants → List (List ℕ × Enabled) → List AuditPolicy → Facts → List (List ℕ)
demanded when grants enabled policies facts =
    if is_mandatory facts.action then placed (codes "ORA$MANDATORY") (demanding when grants enabled policies facts) else demanding when grants enabled policies facts
