-- What changes the decision on a statement on audit policies, or on a call, can have, case by case.
use Rattle.std.proofs.Common.{◌≡◌, ℕ, Bool, true, false, not, ◌||◌, List, [], ◌∷◌, Option, length, refl, sym, subst}
use Rattle.std.specs.Prelude.{if◌then◌else◌}
use Rattle.std.proofs.lemmas.Bool.{or_parts}
use Rattle.au_admin.specs.Deciding.{Decides}
use Rattle.au_admin.specs.Enabling.{audit, audit_makes, audit_rules, enabling, is_refused, noaudit, noaudit_makes, noaudit_rules, users_of}
use Rattle.au_admin.specs.Looking.{has_policy, has_stranger}
use Rattle.au_admin.specs.Policies.{create_policy, create_rules, drop_policy, drop_rules, dropping, has_absent_role, has_absent_table, is_used, new_policy}
use Rattle.au_base.specs.declared.privilege.Privilege.{Privilege}
use Rattle.au_calls.specs.declared.rights.AuditRights.{AuditRights}
use Rattle.au_calls.specs.declared.rules.Effect.{Effect}
use Rattle.au_calls.specs.Calling.{DecidesCall}
use Rattle.au_calls.specs.Reading.{is_bad, is_wrong}
use Rattle.au_calls.specs.Rights.{may_not_audit, used_by}
use Rattle.au_calls.specs.Rules.{changes_alone, decided}
use Rattle.au_calls.specs.Settings.{AuditSetting}
use Rattle.au_define.specs.Rules.{Rules, is_broken}
use Rattle.au_define.specs.Settings.{is_full}
use Rattle.au_entries.specs.declared.change.Change.{Change}
use Rattle.au_entries.specs.declared.change.Change.TheVariants as change
use Rattle.au_entries.specs.declared.decision.Decision.{Decision}
use Rattle.sql_ast.specs.declared.administration.Audit.{Audit as AnyAudit}
use Rattle.sql_ast.specs.declared.administration.CreatePolicy.{CreatePolicy as AnyCreate}
use Rattle.sql_ast.specs.declared.call.Call.{Call as AnyCall}
use Rattle.sql_ast.specs.declared.statement.Statement.{Statement}
use Rattle.sql_ast.specs.declared.statement.Statement.TheVariants.{Select, Count, Insert, Update, Delete, Commit, Rollback, CreateTable, DropTable, CreateUser, AlterUser, DropUser, CreateRole, DropRole, Grant, CreatePolicy, DropPolicy, Audit, Noaudit, Call}

second : (a b : Bool) → (a || b) ≡ false → b ≡ false
second a b is = (or_parts a b is).1

first : (a b : Bool) → (a || b) ≡ false → a ≡ false
first a b is = (or_parts a b is).0

-- of six rules none of which is broken the last isn't
sixth : (a b c d e f : Bool) → (a || (b || (c || (d || (e || (f || false)))))) ≡ false → f ≡ false
sixth a b c d e f is =
    first f false (second e (f || false) (second d (e || (f || false)) (second c (d || (e || (f || false))) (second b (c || (d || (e || (f || false)))) (second a (b || (c || (d || (e || (f || false))))) is)))))

-- Of changes it is so where there is none; of a new policy that there is room for; of the end of one; of what AUDIT makes of an
-- enablement, where its users are there; of what NOAUDIT makes; and of the changes of a call. Something may be known of the
-- statement.
module _ (P : List Change → Type 0) (Holds : Statement → Type 0) (setting : AuditSetting) (none : P [])
    (creates : (create : AnyCreate) → Holds (CreatePolicy create) → is_full (length setting.policies) ≡ false → P (new_policy setting.setting.user create ∷ []))
    (drops : (policy : List ℕ) → Holds (DropPolicy policy) → P (change.PolicyGone policy ∷ []))
    (audits : (statement : AnyAudit) (same : Bool) → Holds (Audit statement) → has_stranger setting (users_of statement.users) ≡ false → P (enabling same statement.policy (audit_makes setting statement)))
    (noaudits : (policy : List ℕ) (users : Option (List (List ℕ))) (same : Bool) → Holds (Noaudit policy users) → P (enabling same policy (noaudit_makes setting policy users)))
    (calls : (call : AnyCall) (decision : Decision) → Holds (Call call) → DecidesCall setting call decision → P decision.changes) where
  at_test : (broken : Bool) (changes : List Change) → (broken ≡ false → P changes) → P (if broken then [] else changes)
  at_test true changes goes = none
  at_test false changes goes = goes refl

  by_rules : (barred : Bool) (others : Rules) (needed : List Privilege) (effect : Effect) → ((barred || is_broken others) ≡ false → P effect.changes) → P (decided barred others needed effect).changes
  by_rules barred others needed effect goes = at_test (barred || is_broken others) effect.changes goes

  of_answer : (answer decision : Decision) → decision ≡ answer → P answer.changes → P decision.changes
  of_answer answer decision is goes = subst (λ (d : Decision). P d.changes) (sym is) goes

  created : (rights : AuditRights) (create : AnyCreate) → Holds (CreatePolicy create) → P (create_policy rights setting create).changes
  created rights create holds =
      by_rules (may_not_audit rights) (create_rules setting create) (used_by rights) (changes_alone (new_policy setting.setting.user create ∷ []))
      (λ clear. creates create holds
      (sixth (is_used setting create.policy) (has_absent_table setting create) (has_absent_role setting create) (is_bad setting.read) (is_wrong setting.read) (is_full (length setting.policies))
      (second (may_not_audit rights) (is_broken (create_rules setting create)) clear)))

  audited : (rights : AuditRights) (same : Bool) (statement : AnyAudit) → Holds (Audit statement) → P (audit rights same setting statement).changes
  audited rights same statement holds =
      by_rules (may_not_audit rights) (audit_rules setting statement) (used_by rights) (changes_alone (enabling same statement.policy (audit_makes setting statement)))
      (λ clear. audits statement same holds
      (first (has_stranger setting (users_of statement.users)) (is_refused (audit_makes setting statement) || false)
      (second (not (has_policy setting statement.policy)) (has_stranger setting (users_of statement.users) || (is_refused (audit_makes setting statement) || false))
      (second (may_not_audit rights) (is_broken (audit_rules setting statement)) clear))))

  pub made : (statement : Statement) (decision : Decision) → Holds statement → Decides setting statement decision → P decision.changes
  made (CreatePolicy create) decision holds (rights, are, is) = of_answer (create_policy rights setting create) decision is (created rights create holds)
  made (DropPolicy policy) decision holds (rights, are, is) =
      of_answer (drop_policy rights setting policy) decision is (by_rules (may_not_audit rights) (drop_rules setting policy) (used_by rights) (dropping policy) (λ clear. drops policy holds))
  made (Audit statement) decision holds (rights, same, are, tells, is) = of_answer (audit rights same setting statement) decision is (audited rights same statement holds)
  made (Noaudit policy users) decision holds (rights, same, are, tells, is) =
      of_answer (noaudit rights same setting policy users) decision is
      (by_rules (may_not_audit rights) (noaudit_rules setting policy users) (used_by rights) (changes_alone (enabling same policy (noaudit_makes setting policy users))) (λ clear. noaudits policy users same holds))
  made (Call call) decision holds decides = calls call decision holds decides
  made (Select x) decision holds never = absurd never
  made (Count x) decision holds never = absurd never
  made (Insert x) decision holds never = absurd never
  made (Update x) decision holds never = absurd never
  made (Delete x) decision holds never = absurd never
  made Commit decision holds never = absurd never
  made Rollback decision holds never = absurd never
  made (CreateTable x) decision holds never = absurd never
  made (DropTable x) decision holds never = absurd never
  made (CreateUser x y) decision holds never = absurd never
  made (AlterUser x y) decision holds never = absurd never
  made (DropUser x) decision holds never = absurd never
  made (CreateRole x) decision holds never = absurd never
  made (DropRole x) decision holds never = absurd never
  made (Grant x) decision holds never = absurd never
