-- The changes of statements on audit policies, and of calls of packages, go on from what is kept.
use Rattle.std.proofs.Common.{◌≡◌, ◌≢◌, ◌≤◌, ◌∙◌, ℕ, Bool, true, false, not, ◌||◌, List, [], ◌∷◌, Option, Some, None, Result, Ok, Err, length, refl, sym, subst}
use Rattle.std.specs.Prelude.{if◌then◌else◌, option_map}
use Rattle.std.specs.List.{list_all}
use Rattle.std.specs.Str.{bytes_eq}
use Rattle.std.proofs.lemmas.Bool.{not-false, or_parts}
use Rattle.std.proofs.lemmas.Slice.Eq.{bytes_eq-Decides}
use Rattle.au_calls.specs.declared.rules.Effect.{Effect}
use Rattle.au_admin.specs.Deciding.{Decides}
use Rattle.au_calls.specs.Calling.{DecidesCall, IsCallRead, IsCallTimely}
use Rattle.au_admin.specs.Enabling.{audit, audit_makes, audit_rules, enabling, noaudit, noaudit_makes, noaudit_rules, users_of}
use Rattle.au_admin.specs.Going.{IsReadIn, IsTimely}
use Rattle.au_calls.specs.Going.{IsReadAs}
use Rattle.au_calls.specs.Reading.{is_bad, is_wrong}
use Rattle.au_admin.specs.Policies.{create_policy, create_rules, drop_policy, drop_rules, dropping, has_absent_role, has_absent_table, is_used, new_policy, when_of}
use Rattle.au_calls.specs.Rights.{may_not_audit, used_by}
use Rattle.au_calls.specs.Rules.{changes_alone, decided}
use Rattle.au_calls.specs.Settings.{AuditSetting, setting_of}
use Rattle.au_admin.specs.Looking.{enablement_of, has_policy, has_stranger, is_enabled}
use Rattle.au_admin.proofs.Members.{all_where_none_fails}
use Rattle.au_admin.proofs.Users.{AllNamed, audit_names, noaudit_names, standing_names}
use Rattle.au_base.specs.BuiltIn.{ora_mandatory}
use Rattle.au_base.specs.Limits.{LAST_MOMENT}
use Rattle.au_base.specs.declared.code.Code.{Code}
use Rattle.au_base.specs.declared.numbers.ClientNo.{ClientNo}
use Rattle.au_base.specs.declared.numbers.Stamp.{Stamp}
use Rattle.au_base.specs.declared.privilege.Privilege.{Privilege}
use Rattle.au_define.specs.Rules.{Rules, is_broken}
use Rattle.au_define.specs.Settings.{is_full}
use Rattle.au_entries.specs.declared.change.Change.{Change}
use Rattle.au_entries.specs.declared.change.Change.TheVariants as change
use Rattle.au_entries.specs.declared.decision.Busy.{Busy}
use Rattle.au_entries.specs.declared.decision.Decision.{Decision}
use Rattle.au_entries.specs.declared.decision.ReadCondition.{ReadCondition}
use Rattle.au_entries.specs.declared.kept.Kept.{Kept}
use Rattle.au_entries.specs.declared.policy.Enabled.{Enabled}
use Rattle.au_entries.specs.Lawful.{IsLawful}
use Rattle.au_entries.specs.Replaying.{AllGoOn, Conditions, IsPolicyCondition, has_user, named_users}
use Rattle.au_entries.specs.Replaying as replaying
use Rattle.sql_ast.specs.declared.administration.Audit.{Audit as AnyAudit}
use Rattle.sql_ast.specs.declared.administration.CreatePolicy.{CreatePolicy as AnyCreate}
use Rattle.sql_ast.specs.declared.administration.PolicyCondition.{PolicyCondition}
use Rattle.sql_ast.specs.declared.call.Call.{Call as AnyCall}
use Rattle.sql_ast.specs.declared.statement.Statement.{Statement}
use Rattle.sql_ast.specs.declared.statement.Statement.TheVariants.{Select, Count, Insert, Update, Delete, Commit, Rollback, CreateTable, DropTable, CreateUser, AlterUser, DropUser, CreateRole, DropRole, Grant, CreatePolicy, DropPolicy, Audit, Noaudit, Call}

-- the second rule isn't broken, and so on
second : (a b : Bool) → (a || b) ≡ false → b ≡ false
second a b is = (or_parts a b is).1

first : (a b : Bool) → (a || b) ≡ false → a ≡ false
first a b is = (or_parts a b is).0

not_of : (b : Bool) → b ≡ false → not b ≡ true
not_of false is = refl
not_of true is = absurd (let e : true ≡ false = is in cc)

-- of six rules none of which is broken the first, the fourth and the fifth aren't
of_six : (a b c d e f : Bool) → (a || (b || (c || (d || (e || (f || false)))))) ≡ false → (a ≡ false) × (d ≡ false) × (e ≡ false)
of_six a b c d e f is =
    let behind = second c (d || (e || (f || false))) (second b _ (second a _ is)) in
    (first a _ is, first d (e || (f || false)) behind, first e (f || false) (second d _ behind))

-- another name, by the test
differs : (a b : List ℕ) → bytes_eq a b ≡ false → a ≢ b
differs a b other same = let e : true ≡ false = sym ((bytes_eq-Decides a b).1 same) ∙ other in absurd cc

module _ (conditions : Conditions) (kept : Kept) where
  abbrev Goes : List Change → Type 0
  Goes changes = AllGoOn conditions false kept changes

  -- ---- a decision's changes go on where they do once no rule is broken

  at_test : (broken : Bool) (changes : List Change) → (broken ≡ false → Goes changes) → Goes (if broken then [] else changes)
  at_test true changes goes = tt
  at_test false changes goes = goes refl

  by_rules : (barred : Bool) (others : Rules) (needed : List Privilege) (effect : Effect) → ((barred || is_broken others) ≡ false → Goes effect.changes)
      → Goes (decided barred others needed effect).changes
  by_rules barred others needed effect goes = at_test (barred || is_broken others) effect.changes goes

  of_answer : (answer decision : Decision) → decision ≡ answer → Goes answer.changes → Goes decision.changes
  of_answer answer decision is goes = subst (λ (d : Decision). Goes d.changes) (sym is) goes

  module _ (lawful : IsLawful conditions kept) (user : List ℕ) (client : ClientNo) (busy : Busy) (stamp : Stamp) (read : ReadCondition) where
    abbrev it : AuditSetting
    it = setting_of kept user client busy stamp read

    -- ---- audit policies

    when_goes : (condition : Option PolicyCondition) → is_bad read ≡ false → is_wrong read ≡ false → IsReadAs conditions None (option_map (λ condition. condition.text) condition) read
        → IsPolicyCondition conditions (option_map when_of condition)
    when_goes None good right reads = tt
    when_goes (Some condition) good right reads = reads good right

    create_goes : (create : AnyCreate) → IsReadAs conditions None (option_map (λ condition. condition.text) create.condition) read → (barred : Bool)
        → (barred || is_broken (create_rules it create)) ≡ false → Goes (new_policy user create ∷ [])
    create_goes create reads barred clear =
        let rules = of_six (is_used it create.policy) (has_absent_table it create) (has_absent_role it create) (is_bad read) (is_wrong read) (is_full (length kept.policies)) (second barred _ clear) in
        ((differs create.policy ora_mandatory (second (has_policy it create.policy) _ rules.0), when_goes create.condition rules.1 rules.2 reads), tt)

    drop_goes : (policy : List ℕ) (barred : Bool) → (barred || is_broken (drop_rules it policy)) ≡ false → Goes (change.PolicyGone policy ∷ [])
    drop_goes policy barred clear =
        let rules = second barred _ clear in
        ((not-false (has_policy it policy) (first _ _ rules), not_of (is_enabled it policy) (first _ _ (second _ _ rules))), tt)

    -- ---- AUDIT and NOAUDIT

    enabling_goes : (policy : List ℕ) → has_policy it policy ≡ true → (same : Bool) (made : Result Enabled Code) → AllNamed (has_user kept) made → Goes (enabling same policy made)
    enabling_goes policy has true (Ok made) all = tt
    enabling_goes policy has false (Ok made) all = ((has, all), tt)
    enabling_goes policy has same (Err code) all = tt

    stands : (policy : List ℕ) → list_all (has_user kept) (named_users (enablement_of it policy)) ≡ true
    stands policy = standing_names (has_user kept) (replaying.has_policy kept) kept.enabled policy lawful.founded.enabled

    known : (users : List (List ℕ)) → has_stranger it users ≡ false → list_all (has_user kept) users ≡ true
    known users none = all_where_none_fails (has_user kept) users none

    audit_goes : (statement : AnyAudit) (same barred : Bool) → (barred || is_broken (audit_rules it statement)) ≡ false → Goes (enabling same statement.policy (audit_makes it statement))
    audit_goes statement same barred clear =
        let rules = second barred _ clear in
        enabling_goes statement.policy (not-false (has_policy it statement.policy) (first _ _ rules)) same (audit_makes it statement)
        (audit_names (has_user kept) statement.users statement.whenever (enablement_of it statement.policy) (known (users_of statement.users) (first _ _ (second _ _ rules))) (stands statement.policy))

    noaudit_goes : (policy : List ℕ) (users : Option (List (List ℕ))) (same barred : Bool) → (barred || is_broken (noaudit_rules it policy users)) ≡ false
        → Goes (enabling same policy (noaudit_makes it policy users))
    noaudit_goes policy users same barred clear =
        let rules = second barred _ clear in
        enabling_goes policy (not-false (has_policy it policy) (first _ _ rules)) same (noaudit_makes it policy users)
        (noaudit_names (has_user kept) users (enablement_of it policy) (stands policy))

-- ---- all of them

pub goes : ((conditions : Conditions) (kept : Kept) (user : List ℕ) (client : ClientNo) (busy : Busy) (stamp : Stamp) (read : ReadCondition) (call : AnyCall) (decision : Decision)
    → IsLawful conditions kept → stamp.0 ≤ LAST_MOMENT → IsCallTimely call → IsCallRead conditions kept user call read
    → DecidesCall (setting_of kept user client busy stamp read) call decision → AllGoOn conditions false kept decision.changes)
    → (conditions : Conditions) (kept : Kept) (user : List ℕ) (client : ClientNo) (busy : Busy) (stamp : Stamp) (read : ReadCondition) (statement : Statement) (decision : Decision)
    → IsLawful conditions kept → stamp.0 ≤ LAST_MOMENT → IsTimely statement → IsReadIn conditions kept user statement read
    → Decides (setting_of kept user client busy stamp read) statement decision → AllGoOn conditions false kept decision.changes
goes calls conditions kept user client busy stamp read (CreatePolicy create) decision lawful early timely reads (rights, are, is) =
    let at = setting_of kept user client busy stamp read in
    of_answer conditions kept (create_policy rights at create) decision is
    (by_rules conditions kept (may_not_audit rights) (create_rules at create) (used_by rights) (changes_alone (new_policy user create ∷ []))
    (create_goes conditions kept lawful user client busy stamp read create reads (may_not_audit rights)))
goes calls conditions kept user client busy stamp read (DropPolicy policy) decision lawful early timely reads (rights, are, is) =
    let at = setting_of kept user client busy stamp read in
    of_answer conditions kept (drop_policy rights at policy) decision is
    (by_rules conditions kept (may_not_audit rights) (drop_rules at policy) (used_by rights) (dropping policy) (drop_goes conditions kept lawful user client busy stamp read policy (may_not_audit rights)))
goes calls conditions kept user client busy stamp read (Audit statement) decision lawful early timely reads (rights, same, are, tells, is) =
    let at = setting_of kept user client busy stamp read in
    of_answer conditions kept (audit rights same at statement) decision is
    (by_rules conditions kept (may_not_audit rights) (audit_rules at statement) (used_by rights) (changes_alone (enabling same statement.policy (audit_makes at statement)))
    (audit_goes conditions kept lawful user client busy stamp read statement same (may_not_audit rights)))
goes calls conditions kept user client busy stamp read (Noaudit policy users) decision lawful early timely reads (rights, same, are, tells, is) =
    let at = setting_of kept user client busy stamp read in
    of_answer conditions kept (noaudit rights same at policy users) decision is
    (by_rules conditions kept (may_not_audit rights) (noaudit_rules at policy users) (used_by rights) (changes_alone (enabling same policy (noaudit_makes at policy users)))
    (noaudit_goes conditions kept lawful user client busy stamp read policy users same (may_not_audit rights)))
goes calls conditions kept user client busy stamp read (Call call) decision lawful early timely reads decides = calls conditions kept user client busy stamp read call decision lawful early timely reads decides
goes calls conditions kept user client busy stamp read (Select x) decision lawful early timely reads never = absurd never
goes calls conditions kept user client busy stamp read (Count x) decision lawful early timely reads never = absurd never
goes calls conditions kept user client busy stamp read (Insert x) decision lawful early timely reads never = absurd never
goes calls conditions kept user client busy stamp read (Update x) decision lawful early timely reads never = absurd never
goes calls conditions kept user client busy stamp read (Delete x) decision lawful early timely reads never = absurd never
goes calls conditions kept user client busy stamp read Commit decision lawful early timely reads never = absurd never
goes calls conditions kept user client busy stamp read Rollback decision lawful early timely reads never = absurd never
goes calls conditions kept user client busy stamp read (CreateTable x) decision lawful early timely reads never = absurd never
goes calls conditions kept user client busy stamp read (DropTable x) decision lawful early timely reads never = absurd never
goes calls conditions kept user client busy stamp read (CreateUser x y) decision lawful early timely reads never = absurd never
goes calls conditions kept user client busy stamp read (AlterUser x y) decision lawful early timely reads never = absurd never
goes calls conditions kept user client busy stamp read (DropUser x) decision lawful early timely reads never = absurd never
goes calls conditions kept user client busy stamp read (CreateRole x) decision lawful early timely reads never = absurd never
goes calls conditions kept user client busy stamp read (DropRole x) decision lawful early timely reads never = absurd never
goes calls conditions kept user client busy stamp read (Grant x) decision lawful early timely reads never = absurd never
