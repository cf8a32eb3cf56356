-- The changes of statements on audit policies, and of calls, have a spelling.
use Rattle.std.proofs.Common.{◌≡◌, ◌≤◌, ℕ, true, List}
use Rattle.std.specs.Prelude.{◌↔◌, IsTrue}
use Rattle.std.specs.List.{AllByRecursion, list_all}
use Rattle.au_admin.specs.Deciding.{Decides}
use Rattle.au_admin.specs.Enabling.{audit_makes, noaudit_makes, users_of}
use Rattle.au_admin.specs.Going.{IsTimely}
use Rattle.au_admin.specs.Looking.{enablement_of}
use Rattle.au_admin.specs.Names.{IsAuditSpelled, IsNamed, IsShort}
use Rattle.au_admin.proofs.Enabled.{audit_spelled, enabling_spelled, noaudit_spelled, standing_spelled}
use Rattle.au_admin.proofs.Made.{made}
use Rattle.au_admin.proofs.Members.{all_where_none_fails}
use Rattle.au_admin.proofs.NewPolicy.{new_spelled}
use Rattle.au_admin.proofs.Users.{standing_names}
use Rattle.au_base.specs.Limits.{LAST_MOMENT}
use Rattle.au_base.specs.Naming.{IsName}
use Rattle.au_base.specs.Sameness.{same_action, same_table}
use Rattle.au_base.specs.declared.action.Action.{Action}
use Rattle.au_base.specs.declared.numbers.ClientNo.{ClientNo}
use Rattle.au_base.specs.declared.numbers.Stamp.{Stamp}
use Rattle.au_base.specs.declared.table.TableName.{TableName}
use Rattle.au_calls.specs.Calling.{DecidesCall, IsCallTimely}
use Rattle.au_calls.specs.Settings.{AuditSetting, setting_of}
use Rattle.au_calls.specs.Written.{AreCallTexts, AreFgaSpelled, IsCallShort}
use Rattle.au_admin.proofs.SpelledNames.{name_spelled}
use Rattle.au_entries.specs.declared.decision.Busy.{Busy}
use Rattle.au_entries.specs.declared.decision.Decision.{Decision}
use Rattle.au_entries.specs.declared.decision.ReadCondition.{ReadCondition}
use Rattle.au_entries.specs.declared.kept.Kept.{Kept}
use Rattle.au_entries.specs.Lawful.{IsLawful, IsWhole}
use Rattle.au_entries.specs.Replaying.{Conditions, has_policy, has_user, named_users}
use Rattle.rec_codec.specs.Changes.{IsChangeSpellable}
use Rattle.sql_ast.specs.declared.call.Call.{Call as AnyCall}
use Rattle.sql_ast.specs.declared.statement.Statement.{Statement}

-- what has to be so of the statement
abbrev IsWritable : Statement → Type 0
IsWritable statement = IsNamed statement × IsShort statement × IsTimely statement

pub spelled : ((a b : TableName) → IsTrue (same_table a b) ↔ (a ≡ b)) → ((a b : Action) → IsTrue (same_action a b) ↔ (a ≡ b))
    → ((setting : AuditSetting) (call : AnyCall) (decision : Decision) → AreCallTexts call → IsCallShort call → IsCallTimely call → IsName setting.setting.user → setting.stamp.0 ≤ LAST_MOMENT
    → AreFgaSpelled setting.fga → DecidesCall setting call decision → AllByRecursion IsChangeSpellable decision.changes)
    → (conditions : Conditions) (kept : Kept) (user : List ℕ) (client : ClientNo) (busy : Busy) (stamp : Stamp) (read : ReadCondition) (statement : Statement) (decision : Decision)
    → IsLawful conditions kept → IsWhole kept → IsAuditSpelled kept → IsNamed statement → IsShort statement → IsTimely statement → IsName user → stamp.0 ≤ LAST_MOMENT
    → Decides (setting_of kept user client busy stamp read) statement decision → AllByRecursion IsChangeSpellable decision.changes
spelled tables actions calls conditions kept user client busy stamp read statement decision lawful whole stand named short timely is early decides =
    let it : AuditSetting = setting_of kept user client busy stamp read in
    let stands : (policy : List ℕ) → list_all (has_user kept) (named_users (enablement_of it policy)) ≡ true =
    λ policy. standing_names (has_user kept) (has_policy kept) kept.enabled policy lawful.founded.enabled in
    made (λ changes. AllByRecursion IsChangeSpellable changes) IsWritable it tt
    (λ create holds room. (new_spelled tables actions user create is holds.0 holds.1.0 holds.1.1 holds.1.2, tt))
    (λ policy holds. (name_spelled policy holds.0, tt))
    (λ audit same holds known. enabling_spelled audit.policy same (audit_makes it audit) holds.0.0
    (audit_spelled kept whole.few.users audit.users audit.whenever (enablement_of it audit.policy) (standing_spelled kept.enabled audit.policy stand.0) holds.0.1
    (all_where_none_fails (has_user kept) (users_of audit.users) known) (stands audit.policy)))
    (λ policy users same holds. enabling_spelled policy same (noaudit_makes it policy users) holds.0.0 (noaudit_spelled users (enablement_of it policy) (standing_spelled kept.enabled policy stand.0)))
    (λ call one holds at. calls it call one holds.0 holds.1 holds.2 is early stand.1 at)
    statement decision (named, short, timely) decides
