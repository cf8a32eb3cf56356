-- The code and the privileges of what is decided can be written into a record.
use Rattle.std.proofs.Common.{◌≡◌, ◌<◌, ◌^◌, Bool, true, false, List, [], ◌∷◌, refl, sym, subst, arith}
use Rattle.std.specs.Prelude.{if◌then◌else◌}
use Rattle.std.specs.List.{AllByRecursion}
use Rattle.au_admin.specs.Deciding.{Decides}
use Rattle.au_admin.specs.Enabling.{audit, audit_makes, audit_rules, enabling, noaudit, noaudit_makes, noaudit_rules}
use Rattle.au_admin.specs.Policies.{create_policy, create_rules, drop_policy, drop_rules, dropping, new_policy}
use Rattle.au_base.specs.Codes.{PRIVILEGE_MISSING}
use Rattle.au_base.specs.FirstCode.{first_code}
use Rattle.au_base.specs.declared.code.Code.{Code}
use Rattle.au_base.specs.declared.privilege.Privilege.{Privilege}
use Rattle.au_base.specs.declared.privilege.Privilege.TheVariants as privilege
use Rattle.au_calls.specs.declared.rules.Effect.{Effect}
use Rattle.au_calls.specs.Calling.{DecidesCall}
use Rattle.au_calls.specs.Reading.{wrong_code}
use Rattle.au_calls.specs.Rights.{may_not_audit, used_by}
use Rattle.au_calls.specs.Rules.{changes_alone, decided}
use Rattle.au_calls.specs.Settings.{AuditSetting}
use Rattle.au_define.specs.Rules.{Rules}
use Rattle.au_entries.specs.declared.decision.Decision.{Decision}
use Rattle.rec_parts.specs.Parts.{privileges_in_order}
use Rattle.rec_parts.specs.Parts as parts
use Rattle.sql_ast.specs.declared.call.Call.{Call as AnyCall}
use Rattle.sql_ast.specs.declared.statement.Statement.{Statement}
use Rattle.sql_ast.specs.declared.statement.Statement.TheVariants.{Select, Count, Insert, Update, Delete, Commit, Rollback, CreateTable, DropTable, CreateUser, AlterUser, DropUser, CreateRole, DropRole, Grant, CreatePolicy, DropPolicy, Audit, Noaudit, Call}

abbrev IsTold : Decision → Type 0
IsTold decision = (decision.code.0 < 2 ^ 32) × privileges_in_order.IsSpellable decision.used

none_used : privileges_in_order.IsSpellable []
unfolding privileges_in_order
none_used = ((omega arith, tt), refl)

first_small : (rules : Rules) → AllByRecursion (λ (rule : Bool × Code). rule.1.0 < 2 ^ 32) rules → (first_code rules).0 < 2 ^ 32
first_small [] small = omega arith
first_small ((true, code) ∷ rules) small = small.0
first_small ((false, code) ∷ rules) small = first_small rules small.1

used_unless : (barred : Bool) (needed : List Privilege) → privileges_in_order.IsSpellable needed → privileges_in_order.IsSpellable (if barred then [] else needed)
used_unless true needed usable = none_used
used_unless false needed usable = usable

by_rules : (barred : Bool) (others : Rules) (needed : List Privilege) (effect : Effect) → AllByRecursion (λ (rule : Bool × Code). rule.1.0 < 2 ^ 32) others → privileges_in_order.IsSpellable needed
    → IsTold (decided barred others needed effect)
by_rules barred others needed effect small usable = (first_small ((barred, PRIVILEGE_MISSING) ∷ others) (omega arith, small), used_unless barred needed usable)

-- AUDIT SYSTEM, or none
used_at : (system : Bool) → privileges_in_order.IsSpellable (if system then privilege.AuditSystem ∷ [] else [])
unfolding privileges_in_order parts.privilege
used_at true = ((omega arith, (tt, tt)), refl)
used_at false = ((omega arith, tt), refl)

at : (answer decision : Decision) → decision ≡ answer → IsTold answer → IsTold decision
at answer decision is told = subst (λ (d : Decision). IsTold d) (sym is) told

pub told : ((setting : AuditSetting) (call : AnyCall) (decision : Decision) → (wrong_code setting.read).0 < 2 ^ 32 → DecidesCall setting call decision → IsTold decision)
    → (setting : AuditSetting) (statement : Statement) (decision : Decision) → (wrong_code setting.read).0 < 2 ^ 32 → Decides setting statement decision → IsTold decision
told calls setting (CreatePolicy create) decision small (rights, are, is) =
    at (create_policy rights setting create) decision is
    (by_rules (may_not_audit rights) (create_rules setting create) (used_by rights) (changes_alone (new_policy setting.setting.user create ∷ []))
    (omega arith, (omega arith, (omega arith, (omega arith, (small, (omega arith, tt)))))) (used_at rights.system))
told calls setting (DropPolicy policy) decision small (rights, are, is) =
    at (drop_policy rights setting policy) decision is
    (by_rules (may_not_audit rights) (drop_rules setting policy) (used_by rights) (dropping policy) (omega arith, (omega arith, tt)) (used_at rights.system))
told calls setting (Audit statement) decision small (rights, same, are, tells, is) =
    at (audit rights same setting statement) decision is
    (by_rules (may_not_audit rights) (audit_rules setting statement) (used_by rights) (changes_alone (enabling same statement.policy (audit_makes setting statement)))
    (omega arith, (omega arith, (omega arith, tt))) (used_at rights.system))
told calls setting (Noaudit policy users) decision small (rights, same, are, tells, is) =
    at (noaudit rights same setting policy users) decision is
    (by_rules (may_not_audit rights) (noaudit_rules setting policy users) (used_by rights) (changes_alone (enabling same policy (noaudit_makes setting policy users)))
    (omega arith, (omega arith, (omega arith, tt))) (used_at rights.system))
told calls setting (Call call) decision small decides = calls setting call decision small decides
told calls setting (Select x) decision small never = absurd never
told calls setting (Count x) decision small never = absurd never
told calls setting (Insert x) decision small never = absurd never
told calls setting (Update x) decision small never = absurd never
told calls setting (Delete x) decision small never = absurd never
told calls setting Commit decision small never = absurd never
told calls setting Rollback decision small never = absurd never
told calls setting (CreateTable x) decision small never = absurd never
told calls setting (DropTable x) decision small never = absurd never
told calls setting (CreateUser x y) decision small never = absurd never
told calls setting (AlterUser x y) decision small never = absurd never
told calls setting (DropUser x) decision small never = absurd never
told calls setting (CreateRole x) decision small never = absurd never
told calls setting (DropRole x) decision small never = absurd never
told calls setting (Grant x) decision small never = absurd never
