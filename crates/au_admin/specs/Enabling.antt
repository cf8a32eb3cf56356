-- How AUDIT and NOAUDIT are decided (SQL Language Reference, "AUDIT (Unified Auditing)" and "NOAUDIT (Unified Auditing)"; the
-- order of the rules and their codes are this project's profile).
use Rattle.std.specs.Prelude.{◌≡◌, ℕ, Bool, true, false, not, if◌then◌else◌, List, [], ◌∷◌, Option, Some, None, Result, Ok, Err}
use Rattle.au_calls.specs.declared.rights.AuditRights.{AuditRights}
use Rattle.au_calls.specs.Rights.{AreRights, may_not_audit, used_by}
use Rattle.au_calls.specs.Rules.{changes_alone, decided}
use Rattle.au_calls.specs.Settings.{AuditSetting}
use Rattle.au_admin.specs.Looking.{enablement_of, has_policy, has_stranger}
use Rattle.au_base.specs.Codes.{NOT_ENABLED_SO, NO_SUCH_POLICY, NO_SUCH_USER, OTHER_MODE}
use Rattle.au_base.specs.declared.code.Code.{Code}
use Rattle.au_define.specs.Rules.{Rules, Tells}
use Rattle.au_entries.specs.declared.change.Change.{Change}
use Rattle.au_entries.specs.declared.change.Change.TheVariants.{Enable}
use Rattle.au_entries.specs.declared.decision.Decision.{Decision}
use Rattle.au_entries.specs.declared.policy.Enabled.{Enabled}
use Rattle.au_entries.specs.Enabling.{audit_made, noaudit_made}
use Rattle.sql_ast.specs.declared.administration.Audit.{Audit}
use Rattle.sql_ast.specs.declared.administration.AuditedUsers.{AuditedUsers}
use Rattle.sql_ast.specs.declared.administration.AuditedUsers.TheVariants.{By, Except}

-- the users that AUDIT names, listed or excepted
abbrev pub users_of : Option AuditedUsers → List (List ℕ)
users_of None = []
users_of (Some (By users)) = users
users_of (Some (Except users)) = users

-- the users that NOAUDIT names
abbrev pub users_in : Option (List (List ℕ)) → List (List ℕ)
users_in None = []
users_in (Some users) = users

-- no enablement is made of the one that stands
abbrev pub is_refused : Result Enabled Code → Bool
is_refused (Ok made) = false
is_refused (Err code) = true

-- the enablement that is made is a change, unless it is the one that stands
abbrev pub enabling : Bool → List ℕ → Result Enabled Code → List Change
enabling same policy (Ok made) = if same then [] else Enable policy made ∷ []
enabling same policy (Err code) = []

-- what AUDIT makes of the enablement that stands
abbrev pub audit_makes : AuditSetting → Audit → Result Enabled Code
audit_makes setting statement = audit_made statement.users statement.whenever (enablement_of setting statement.policy)

-- AUDIT, behind the right: a policy of that name; the users that are named are there; the policy isn't enabled in the other
-- mode
abbrev pub audit_rules : AuditSetting → Audit → Rules
audit_rules setting statement =
    (not (has_policy setting statement.policy), NO_SUCH_POLICY) ∷ (has_stranger setting (users_of statement.users), NO_SUCH_USER)
    ∷ (is_refused (audit_makes setting statement), OTHER_MODE) ∷ []

abbrev pub audit : AuditRights → Bool → AuditSetting → Audit → Decision
audit rights same setting statement =
    decided (may_not_audit rights) (audit_rules setting statement) (used_by rights)
    (changes_alone (enabling same statement.policy (audit_makes setting statement)))

abbrev pub DecidesAudit : AuditSetting → Audit → Decision → Type 0
DecidesAudit setting statement decision =
    (rights : AuditRights) × (same : Bool) × AreRights setting rights
    × Tells same (audit_makes setting statement ≡ Ok (enablement_of setting statement.policy))
    × (decision ≡ audit rights same setting statement)

-- what NOAUDIT makes of the enablement that stands
abbrev pub noaudit_makes : AuditSetting → List ℕ → Option (List (List ℕ)) → Result Enabled Code
noaudit_makes setting policy users = noaudit_made users (enablement_of setting policy)

-- NOAUDIT, behind the right: a policy of that name; the users that are named are there; the policy is enabled in this mode
abbrev pub noaudit_rules : AuditSetting → List ℕ → Option (List (List ℕ)) → Rules
noaudit_rules setting policy users =
    (not (has_policy setting policy), NO_SUCH_POLICY) ∷ (has_stranger setting (users_in users), NO_SUCH_USER)
    ∷ (is_refused (noaudit_makes setting policy users), NOT_ENABLED_SO) ∷ []

-- the results of the policy's condition that are kept stay
abbrev pub noaudit : AuditRights → Bool → AuditSetting → List ℕ → Option (List (List ℕ)) → Decision
noaudit rights same setting policy users =
    decided (may_not_audit rights) (noaudit_rules setting policy users) (used_by rights)
    (changes_alone (enabling same policy (noaudit_makes setting policy users)))

abbrev pub DecidesNoaudit : AuditSetting → List ℕ → Option (List (List ℕ)) → Decision → Type 0
DecidesNoaudit setting policy users decision =
    (rights : AuditRights) × (same : Bool) × AreRights setting rights
    × Tells same (noaudit_makes setting policy users ≡ Ok (enablement_of setting policy))
    × (decision ≡ noaudit rights same setting policy users)
