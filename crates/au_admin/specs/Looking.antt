-- What auditing has before the statement.
use Rattle.std.specs.Prelude.{ℕ, Bool, not, List}
use Rattle.std.specs.List.{list_any}
use Rattle.std.specs.Str.{bytes_eq}
use Rattle.au_calls.specs.Settings.{AuditSetting}
use Rattle.au_define.specs.Settings.{has_user}
use Rattle.au_entries.specs.declared.policy.Enabled.{Enabled}
use Rattle.au_entries.specs.Demand as demand

-- an audit policy of this name is there
abbrev pub has_policy : AuditSetting → List ℕ → Bool
has_policy setting name = list_any (λ policy. bytes_eq policy.name name) setting.policies

-- the audit policy of this name is enabled for somebody
abbrev pub is_enabled : AuditSetting → List ℕ → Bool
is_enabled setting name = list_any (λ entry. bytes_eq entry.0 name) setting.enabled

-- for whom the audit policy of this name is enabled
abbrev pub enablement_of : AuditSetting → List ℕ → Enabled
enablement_of setting name = demand.enablement_of setting.enabled name

-- some of these is no user
abbrev pub has_stranger : AuditSetting → List (List ℕ) → Bool
has_stranger setting users = list_any (λ user. not (has_user setting.setting user)) users
