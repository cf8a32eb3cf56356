-- A statement that is refused changes nothing, purges nothing and forgets nothing.
use Rattle.std.proofs.Common.{◌≡◌, ◌≢◌, ◌||◌, Bool, true, false, List, [], ◌∷◌, None, refl, sym, subst}
use Rattle.std.specs.Prelude.{if◌then◌else◌}
use Rattle.au_calls.specs.declared.rules.Effect.{Effect}
use Rattle.au_admin.specs.Deciding.{Decides}
use Rattle.au_calls.specs.Calling.{DecidesCall}
use Rattle.au_admin.specs.Enabling.{audit, audit_makes, audit_rules, enabling, noaudit, noaudit_makes, noaudit_rules}
use Rattle.au_admin.specs.Policies.{create_policy, create_rules, drop_policy, drop_rules, dropping, new_policy}
use Rattle.au_calls.specs.Rights.{may_not_audit, used_by}
use Rattle.au_calls.specs.Rules.{changes_alone, decided}
use Rattle.au_calls.specs.Settings.{AuditSetting}
use Rattle.au_base.specs.Codes.{DONE, PRIVILEGE_MISSING}
use Rattle.au_base.specs.FirstCode.{first_code}
use Rattle.au_base.specs.declared.privilege.Privilege.{Privilege}
use Rattle.au_define.specs.Rules.{Rules, is_broken}
use Rattle.au_entries.specs.declared.decision.Decision.{Decision}
use Rattle.sql_ast.specs.declared.call.Call.{Call as AnyCall}
use Rattle.sql_ast.specs.declared.statement.Statement.{Statement}
use Rattle.sql_ast.specs.declared.statement.Statement.TheVariants.{Select, Count, Insert, Update, Delete, Commit, Rollback, CreateTable, DropTable, CreateUser, AlterUser, DropUser, CreateRole, DropRole, Grant, CreatePolicy, DropPolicy, Audit, Noaudit, Call}

unbroken : (rules : Rules) → is_broken rules ≡ false → first_code rules ≡ DONE
unbroken [] is = refl
unbroken ((true, code) ∷ rules) is = absurd (let e : true ≡ false = is in cc)
unbroken ((false, code) ∷ rules) is = unbroken rules is

abbrev Nothing : Decision → Type 0
Nothing decision = (decision.changes ≡ []) × (decision.purge ≡ None) × (decision.forgets ≡ [])

none_if : {X : Type 0} (broken : Bool) (none some : X) → ((broken ≡ false) → ⊥) → (if broken then none else some) ≡ none
none_if true none some isnt = refl
none_if false none some isnt = absurd (isnt refl)

of_decided : (barred : Bool) (others : Rules) (needed : List Privilege) (effect : Effect) → (decided barred others needed effect).code ≢ DONE → Nothing (decided barred others needed effect)
of_decided barred others needed effect refused =
    let isnt : ((barred || is_broken others) ≡ false) → ⊥ = λ clear. refused (unbroken ((barred, PRIVILEGE_MISSING) ∷ others) clear) in
    (none_if (barred || is_broken others) [] effect.changes isnt, none_if (barred || is_broken others) None effect.purge isnt, none_if (barred || is_broken others) [] effect.forgets isnt)

at : (answer decision : Decision) → decision ≡ answer → (answer.code ≢ DONE → Nothing answer) → decision.code ≢ DONE → Nothing decision
at answer decision is nothing = subst (λ (d : Decision). d.code ≢ DONE → Nothing d) (sym is) nothing

pub refused : ((setting : AuditSetting) (call : AnyCall) (decision : Decision) → DecidesCall setting call decision → decision.code ≢ DONE → Nothing decision)
    → (setting : AuditSetting) (statement : Statement) (decision : Decision) → Decides setting statement decision → decision.code ≢ DONE → Nothing decision
refused calls setting (CreatePolicy create) decision (rights, are, is) =
    at (create_policy rights setting create) decision is (of_decided (may_not_audit rights) (create_rules setting create) (used_by rights) (changes_alone (new_policy setting.setting.user create ∷ [])))
refused calls setting (DropPolicy policy) decision (rights, are, is) =
    at (drop_policy rights setting policy) decision is (of_decided (may_not_audit rights) (drop_rules setting policy) (used_by rights) (dropping policy))
refused calls setting (Audit statement) decision (rights, same, are, tells, is) =
    at (audit rights same setting statement) decision is
    (of_decided (may_not_audit rights) (audit_rules setting statement) (used_by rights) (changes_alone (enabling same statement.policy (audit_makes setting statement))))
refused calls setting (Noaudit policy users) decision (rights, same, are, tells, is) =
    at (noaudit rights same setting policy users) decision is
    (of_decided (may_not_audit rights) (noaudit_rules setting policy users) (used_by rights) (changes_alone (enabling same policy (noaudit_makes setting policy users))))
refused calls setting (Call call) decision decides = calls setting call decision decides
refused calls setting (Select x) decision never = absurd never
refused calls setting (Count x) decision never = absurd never
refused calls setting (Insert x) decision never = absurd never
refused calls setting (Update x) decision never = absurd never
refused calls setting (Delete x) decision never = absurd never
refused calls setting Commit decision never = absurd never
refused calls setting Rollback decision never = absurd never
refused calls setting (CreateTable x) decision never = absurd never
refused calls setting (DropTable x) decision never = absurd never
refused calls setting (CreateUser x y) decision never = absurd never
refused calls setting (AlterUser x y) decision never = absurd never
refused calls setting (DropUser x) decision never = absurd never
refused calls setting (CreateRole x) decision never = absurd never
refused calls setting (DropRole x) decision never = absurd never
refused calls setting (Grant x) decision never = absurd never
