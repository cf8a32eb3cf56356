-- The rights that statements on auditing need (Database Security Guide, "Who Can Perform Auditing?"; which of two rights
-- counts as used is this project's profile).
use Rattle.std.specs.Prelude.{◌≡◌, ◌&&◌, Bool, not, if◌then◌else◌, List, [], ◌∷◌}
use Rattle.au_calls.specs.declared.rights.AuditRights.{AuditRights}
use Rattle.au_calls.specs.Settings.{AuditSetting}
use Rattle.au_base.specs.BuiltIn.{audit_admin}
use Rattle.au_base.specs.declared.privilege.Privilege.{Privilege}
use Rattle.au_base.specs.declared.privilege.Privilege.TheVariants.{AuditSystem}
use Rattle.au_define.specs.Rules.{Tells}
use Rattle.au_entries.specs.declared.decision.Decision.{Decision}
use Rattle.au_grants.specs.Rights.{HoldsPrivilege, HoldsRole}

-- whether the user holds the system privilege AUDIT SYSTEM, and whether the role AUDIT_ADMIN
pub record AreRights (setting : AuditSetting) (rights : AuditRights) : Type 0 where
  pub system : Tells rights.system (HoldsPrivilege setting.setting.grants setting.setting.user AuditSystem)
  pub admin : Tells rights.admin (HoldsRole setting.setting.grants.role setting.setting.user audit_admin)

-- audit policies need AUDIT SYSTEM, or else the role AUDIT_ADMIN
abbrev pub may_not_audit : AuditRights → Bool
may_not_audit rights = not rights.system && not rights.admin

-- AUDIT SYSTEM is used by who holds it; the role alone uses no privilege
abbrev pub used_by : AuditRights → List Privilege
used_by rights = if rights.system then AuditSystem ∷ [] else []

-- the decision is what the answer gives for the user's rights
abbrev pub DecidedByRights : AuditSetting → (AuditRights → Decision) → Decision → Type 0
DecidedByRights setting answer decision = (rights : AuditRights) × AreRights setting rights × (decision ≡ answer rights)
