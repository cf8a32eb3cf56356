-- An image of what is lawful goes on from nothing and gives it back.
use Rattle.std.proofs.Common.{◌≡◌, ◌≢◌, ◌∙◌, ℕ, zero, suc, ◌≤◌, ◌<◌, ◌⊎◌, Bool, true, false, not, ◌||◌, List, [], ◌∷◌, ◌++◌, map, length, refl, sym, ap, subst, append_assoc, inl, inr, arith}
use Rattle.std.specs.Prelude.{IsTrue, Option, Some, None, ◌&&◌, if◌then◌else◌}
use Rattle.std.specs.List.{AllByRecursion, Contains, list_all, list_any}
use Rattle.std.specs.Str.{bytes_eq}
use Rattle.std.proofs.lemmas.Bool.{and_parts}
use Rattle.std.proofs.lemmas.List.{map-append}
use Rattle.std.proofs.lemmas.List.Elements.{Contains-append_left, Contains-append_right}
use Rattle.std.proofs.lemmas.Slice.Eq.{bytes_eq-Decides}
use Rattle.au_base.specs.BuiltIn.{ora_mandatory}
use Rattle.au_base.specs.Order.{fields_before, is_in_order, name_before}
use Rattle.au_base.specs.OrderLaws.{fields_irreflexive, names_irreflexive}
use Rattle.au_base.specs.Sameness.{same_table}
use Rattle.au_base.specs.declared.numbers.Stamp.{Stamp}
use Rattle.au_base.specs.declared.table.TableName.{TableName}
use Rattle.au_entries.specs.declared.change.Change.{Change}
use Rattle.au_entries.specs.declared.change.Change.TheVariants.{Start}
use Rattle.au_entries.specs.declared.fine_grained.FgaPolicy.{FgaPolicy}
use Rattle.au_entries.specs.declared.kept.Kept.{Kept}
use Rattle.au_entries.specs.declared.policy.AuditPolicy.{AuditPolicy}
use Rattle.au_entries.specs.declared.policy.Condition.{Condition}
use Rattle.au_entries.specs.declared.policy.Enabled.{Enabled}
use Rattle.au_entries.specs.declared.policy.Enabled.TheVariants.{Off, By, Except}
use Rattle.au_entries.specs.declared.policy.Evaluate.{Evaluate}
use Rattle.au_entries.specs.declared.table.Table.{Table as AnyTable}
use Rattle.au_entries.specs.Changing.{KeptRow, by_fields, by_name, changed, changed_all, fga_fields, is_on, put_in_order, read_as, row_fields, table_fields, with_enablement, with_tree}
use Rattle.au_entries.proofs.Groups.{Leads, before_last, by_keys, front_in_order, group, leads_on, put_last}
use Rattle.au_entries.specs.Imaging.{archive_changes, enablement_change, fga_change, image_changes, nothing, object_change, policy_change, role_change, role_grant_change, row_change, system_change, table_change, user_change, written_condition, written_text}
use Rattle.au_entries.specs.Lawful.{IsAuditTruth, IsFgaTruth, IsLawful, IsRowFounded, IsTableFounded}
use Rattle.au_entries.specs.Replaying.{AllGoOn, Conditions, GoesOn, IsArchive, IsFgaCondition, IsKeptTable, IsPolicyCondition, has_grantee, has_policy, has_role, has_table, has_user, named_users}
use Rattle.au_grants.specs.declared.change.GrantChange.{GrantChange}
use Rattle.au_grants.specs.Changing.{applied, applied_all, object_grant, role_grant, system_grant, without}
use Rattle.au_grants.specs.Order.{AreInOrder, object_before, role_before, system_before}
use Rattle.sql_ast.specs.declared.expression.Expr.{Expr}
use Rattle.au_grants.specs.Rights.{Grants, HasNoCircle, HoldsRole, IsChain, IsHolder, IsRoleGranted, ObjectEntry, RoleEntry, SystemEntry}

-- that grants in order come back where they are granted in turn, as `grants_in_order_come_back` says it
pub record ComeBack : Type 0 where
  pub system : (grants : Grants) → AreInOrder grants → applied_all (map system_grant grants.system) (record grants { system = [] }) ≡ grants
  pub role : (grants : Grants) → AreInOrder grants → applied_all (map role_grant grants.role) (record grants { role = [] }) ≡ grants
  pub object : (grants : Grants) → AreInOrder grants → applied_all (map object_grant grants.object) (record grants { object = [] }) ≡ grants

-- ---- names that come before another differ from it

not_both : (b : Bool) → b ≡ true → b ≡ false → ⊥
not_both b is isnt = let e : true ≡ false = sym is ∙ isnt in cc

name_apart : (a b : List ℕ) → name_before a b ≡ true → bytes_eq a b ≡ false
name_apart a b before = other (bytes_eq a b) refl
  where
    other : (same : Bool) → bytes_eq a b ≡ same → same ≡ false
    other true is = absurd (not_both (name_before a a) (subst (λ (n : List ℕ). name_before a n ≡ true) (sym ((bytes_eq-Decides a b).0 is)) before) (names_irreflexive a))
    other false is = refl

table_apart : (a b : TableName) → fields_before (table_fields a) (table_fields b) ≡ true → same_table a b ≡ false
table_apart a b before = other (same_table a b) refl
  where
    other : (same : Bool) → same_table a b ≡ same → same ≡ false
    other true is =
        let parts = and_parts (bytes_eq a.owner b.owner) (bytes_eq a.name b.name) is in
        let owner : a.owner ≡ b.owner = (bytes_eq-Decides a.owner b.owner).0 parts.0 in
        let name : a.name ≡ b.name = (bytes_eq-Decides a.name b.name).0 parts.1 in
        let itself : table_fields b ≡ table_fields a = λ i. sym owner i ∷ sym name i ∷ [] in
        absurd (not_both (fields_before (table_fields a) (table_fields a)) (subst (λ (f : List (List ℕ)). fields_before (table_fields a) f ≡ true) itself before) (fields_irreflexive (table_fields a)))
    other false is = refl

-- where no entry passes the test, there is none
none_there : {X : Type 0} (test : X → Bool) (xs : List X) → AllByRecursion (λ x. test x ≡ false) xs → not (list_any test xs) ≡ true
none_there test [] all = refl
none_there test (x ∷ xs) all = ap (λ (b : Bool). not (b || list_any test xs)) all.0 ∙ none_there test xs all.1

weaker : {X : Type 0} (P Q : X → Type 0) → ((x : X) → P x → Q x) → (xs : List X) → AllByRecursion P xs → AllByRecursion Q xs
weaker P Q less [] all = tt
weaker P Q less (x ∷ xs) all = (less x all.0, weaker P Q less xs all.1)

both : {X : Type 0} (P Q : X → Type 0) (xs : List X) → AllByRecursion P xs → AllByRecursion Q xs → AllByRecursion (λ x. P x × Q x) xs
both P Q [] one two = tt
both P Q (x ∷ xs) one two = ((one.0, two.0), both P Q xs one.1 two.1)

all_same : {X : Type 0} (xs : List X) → AllByRecursion (λ x. Unit {0}) xs
all_same [] = tt
all_same (x ∷ xs) = (tt, all_same xs)

-- ---- what is made, group by group

abbrev with_grants : Kept → List SystemEntry → List RoleEntry → List ObjectEntry → Kept
with_grants kept system role object = record kept { grants = record { system = system; role = role; object = object } }

abbrev stage1 : Kept → Kept
stage1 k = record nothing { users = k.users }

abbrev stage2 : Kept → Kept
stage2 k = record (stage1 k) { roles = k.roles }

abbrev stage3 : Kept → Kept
stage3 k = with_grants (stage2 k) k.grants.system [] []

abbrev stage4 : Kept → Kept
stage4 k = with_grants (stage2 k) k.grants.system k.grants.role []

abbrev stage5 : Kept → Kept
stage5 k = record (stage4 k) { tables = k.tables }

abbrev stage6 : Kept → Kept
stage6 k = record (stage5 k) { rows = k.rows }

abbrev stage7 : Kept → Kept
stage7 k = with_grants (stage6 k) k.grants.system k.grants.role k.grants.object

abbrev stage8 : Kept → Kept
stage8 k = record (stage7 k) { policies = k.policies }

abbrev stage9 : Kept → Kept
stage9 k = record (stage8 k) { enabled = k.enabled }

abbrev stage10 : Kept → Kept
stage10 k = record (stage9 k) { fga = k.fga }

abbrev stage11 : Kept → Kept
stage11 k = record (stage10 k) { archive = k.archive }

abbrev stage12 : Kept → Kept
stage12 k = record (stage11 k) { instance = k.instance }

-- ---- users and roles

users_lead : (cs : Conditions) (k : Kept) → IsLawful cs k → Leads cs nothing (map user_change k.users) (stage1 k)
users_lead cs k h =
    group cs (λ a b. name_before a.0 b.0) user_change (λ us. record nothing { users = us }) (λ u. Unit {0}) k.users
    (λ done u rest split front p. (tt, ap (λ (us : List (List ℕ × List ℕ)). record nothing { users = us }) (put_last (λ x. by_name x.0 u.0) u done (before_last (λ a b. name_before a.0 b.0) done u front))))
    (by_keys name_before (λ u. u.0) k.users h.ordered.users) (all_same k.users)

roles_lead : (cs : Conditions) (k : Kept) → IsLawful cs k → Leads cs (stage1 k) (map role_change k.roles) (stage2 k)
roles_lead cs k h =
    let at : List (List ℕ) → Kept = λ rs. record (stage1 k) { roles = rs } in
    group cs name_before role_change at (λ r. Unit {0}) k.roles
    (λ done r rest split front p.
    let first = before_last name_before done r front in
    (none_there (λ x. bytes_eq x r) done (weaker (λ x. name_before x r ≡ true) (λ x. bytes_eq x r ≡ false) (λ x b. name_apart x r b) done first), ap at (put_last (λ x. by_name x r) r done first)))
    h.ordered.roles (all_same k.roles)

-- ---- grants

applied_joined : (xs ys : List GrantChange) (grants : Grants) → applied_all (xs ++ ys) grants ≡ applied_all ys (applied_all xs grants)
applied_joined [] ys grants = refl
applied_joined (x ∷ xs) ys grants = applied_joined xs ys (applied x grants)

-- one more is granted behind those before it
one_more : {X : Type 0} (grant : X → GrantChange) (at : List X → Grants) → (done : List X) (x : X) → applied_all (map grant done) (at []) ≡ at done → applied_all (map grant (done ++ x ∷ [])) (at []) ≡ at (done ++ x ∷ [])
    → applied (grant x) (at done) ≡ at (done ++ x ∷ [])
one_more grant at done x before after =
    ap (applied (grant x)) (sym before) ∙ sym (applied_joined (map grant done) (grant x ∷ []) (at []))
    ∙ ap (λ (cs : List GrantChange). applied_all cs (at [])) (sym (map-append grant done (x ∷ []))) ∙ after

system_lead : ComeBack → (cs : Conditions) (k : Kept) → IsLawful cs k → Leads cs (stage2 k) (map system_change k.grants.system) (stage3 k)
system_lead back cs k h =
    let at : List SystemEntry → Grants = λ gs. record { system = gs; role = []; object = [] } in
    group cs system_before system_change (λ gs. with_grants (stage2 k) gs [] []) (λ g. IsTrue (has_grantee k g.0)) k.grants.system
    (λ done g rest split front p. (
      p,
      ap (λ (gs : Grants). record (stage2 k) { grants = gs })
          (one_more system_grant at done g (back.system (at done) (front_in_order system_before done (g ∷ []) front, refl, refl)) (back.system (at (done ++ g ∷ [])) (front, refl, refl))),
    ))
    h.ordered.grants.0 h.founded.system

-- chains of grants of roles
direct : (roles : List RoleEntry) (user role : List ℕ) → IsRoleGranted roles user role → HoldsRole roles user role
direct roles user role granted = ([], (granted, tt))

behind : (roles : List RoleEntry) (user role held : List ℕ) → IsRoleGranted roles user role → HoldsRole roles role held → HoldsRole roles user held
behind roles user role held granted (path, chain) = (role ∷ path, (granted, chain))

-- fewer grants of roles hold no more
fewer_hold : (roles fewer : List RoleEntry) → ((entry : RoleEntry) → Contains fewer entry → Contains roles entry) → (user role : List ℕ) (path : List (List ℕ)) → IsChain fewer user (path ++ role ∷ []) → HoldsRole roles user role
fewer_hold roles fewer within user role [] chain = direct roles user role (chain.0.0, within (user, role, chain.0.0) chain.0.1)
fewer_hold roles fewer within user role (first ∷ path) chain =
    behind roles user first role (chain.0.0, within (user, first, chain.0.0) chain.0.1) (fewer_hold roles fewer within first role path chain.1)

-- one grant of a circle-free list closes no circle over those before it
closes_none : (roles done rest : List RoleEntry) (g : RoleEntry) → roles ≡ done ++ g ∷ rest → HasNoCircle roles → IsHolder done g.1 g.0 → ⊥
closes_none roles done rest g split clear holder =
    let within : (entry : RoleEntry) → Contains done entry → Contains roles entry = λ entry has. subst (λ (xs : List RoleEntry). Contains xs entry) (sym split) (Contains-append_left done (g ∷ rest) entry has) in
    let granted : IsRoleGranted roles g.0 g.1 = (g.2, subst (λ (xs : List RoleEntry). Contains xs g) (sym split) (Contains-append_right done (g ∷ rest) g (0, omega arith, refl))) in
    elim holder [
      | inl same ↦ clear g.0 (subst (λ (n : List ℕ). HoldsRole roles g.0 n) (sym same) (direct roles g.0 g.1 granted))
      | inr holds ↦ clear g.0 (behind roles g.0 g.1 g.0 granted (fewer_hold roles done within g.1 g.0 holds.0 holds.1))
    ]

role_grants_lead : ComeBack → (cs : Conditions) (k : Kept) → IsLawful cs k → Leads cs (stage3 k) (map role_grant_change k.grants.role) (stage4 k)
role_grants_lead back cs k h =
    let system = k.grants.system in
    let at : List RoleEntry → Grants = λ gs. record { system = system; role = gs; object = [] } in
    group cs role_before role_grant_change (λ gs. with_grants (stage2 k) system gs []) (λ g. IsTrue (has_grantee k g.0) × IsTrue (has_role k g.1)) k.grants.role
    (λ done g rest split front p. (
      (p.0, p.1, closes_none k.grants.role done rest g split h.founded.no_circle),
      ap (λ (gs : Grants). record (stage2 k) { grants = gs })
          (one_more role_grant at done g (back.role (at done) (h.ordered.grants.0, front_in_order role_before done (g ∷ []) front, refl)) (back.role (at (done ++ g ∷ [])) (h.ordered.grants.0, front, refl))),
    ))
    h.ordered.grants.1 h.founded.role

objects_lead : ComeBack → (cs : Conditions) (k : Kept) → IsLawful cs k → Leads cs (stage6 k) (map object_change k.grants.object) (stage7 k)
objects_lead back cs k h =
    let system = k.grants.system in
    let role = k.grants.role in
    let at : List ObjectEntry → Grants = λ gs. record { system = system; role = role; object = gs } in
    group cs object_before object_change (λ gs. with_grants (stage6 k) system role gs) (λ g. IsTrue (has_grantee k g.0) × IsTrue (has_table k g.1)) k.grants.object
    (λ done g rest split front p. (
      p,
      ap (λ (gs : Grants). record (stage6 k) { grants = gs })
          (one_more object_grant at done g (back.object (at done) (h.ordered.grants.0, h.ordered.grants.1, front_in_order object_before done (g ∷ []) front)) (back.object (at (done ++ g ∷ [])) (h.ordered.grants.0, h.ordered.grants.1, front))),
    ))
    h.ordered.grants.2 h.founded.object

-- ---- tables and rows

tables_lead : (cs : Conditions) (k : Kept) → IsLawful cs k → Leads cs (stage4 k) (map table_change k.tables) (stage5 k)
tables_lead cs k h =
    let at : List AnyTable → Kept = λ ts. record (stage4 k) { tables = ts } in
    let before : AnyTable → AnyTable → Bool = λ a b. fields_before (table_fields a.name) (table_fields b.name) in
    group cs before table_change at (IsTableFounded k) k.tables
    (λ done t rest split front p.
    let first = before_last before done t front in
    let new : not (list_any (λ x. same_table x.name t.name) done) ≡ true =
    none_there (λ x. same_table x.name t.name) done (weaker (λ x. before x t ≡ true) (λ x. same_table x.name t.name ≡ false) (λ x b. table_apart x.name t.name b) done first) in
    ((new, p.0, p.1, p.2, p.3), ap at (put_last (λ x. by_fields (table_fields x.name) (table_fields t.name)) t done first)))
    (by_keys fields_before (λ t. table_fields t.name) k.tables h.ordered.tables) h.founded.tables

rows_lead : (cs : Conditions) (k : Kept) → IsLawful cs k → Leads cs (stage5 k) (map row_change k.rows) (stage6 k)
rows_lead cs k h =
    let at : List KeptRow → Kept = λ rs. record (stage5 k) { rows = rs } in
    let before : KeptRow → KeptRow → Bool = λ a b. fields_before (row_fields a.0 a.1) (row_fields b.0 b.1) in
    group cs before row_change at (IsRowFounded k) k.rows
    (λ done r rest split front p. (p, ap at (put_last (λ x. by_fields (row_fields x.0 x.1) (row_fields r.0 r.1)) r done (before_last before done r front))))
    (by_keys fields_before (λ r. row_fields r.0 r.1) k.rows h.ordered.rows) h.founded.rows

-- ---- policies

audit_goes : (cs : Conditions) (when : Option (Evaluate × Condition)) → IsAuditTruth cs when → IsPolicyCondition cs (written_condition when)
audit_goes cs None is = tt
audit_goes cs (Some when) is = (is.0.0, subst (λ (t : Expr). cs.is_truth None t ≡ true) is.0.1 is.1)

audit_again : (cs : Conditions) (when : Option (Evaluate × Condition)) → IsAuditTruth cs when → with_tree cs.tree (written_condition when) ≡ when
audit_again cs None is = refl
audit_again cs (Some when) is = λ i. Some (when.0, record { text = when.1.text; tree = sym is.0.1 i })

policies_lead : (cs : Conditions) (k : Kept) → IsLawful cs k → Leads cs (stage7 k) (map policy_change k.policies) (stage8 k)
policies_lead cs k h =
    let at : List AuditPolicy → Kept = λ ps. record (stage7 k) { policies = ps } in
    let before : AuditPolicy → AuditPolicy → Bool = λ a b. name_before a.name b.name in
    group cs before policy_change at (λ p. (p.name ≢ ora_mandatory) × IsAuditTruth cs p.when) k.policies
    (λ done p rest split front is. (
      (is.0, audit_goes cs p.when is.1),
      ap (λ (w : Option (Evaluate × Condition)). at (put_in_order (λ x. by_name x.name p.name) (record p { when = w }) done)) (audit_again cs p.when is.1)
          ∙ ap at (put_last (λ x. by_name x.name p.name) p done (before_last before done p front)),
    ))
    (by_keys name_before (λ p. p.name) k.policies h.ordered.policies)
    (both (λ p. p.name ≢ ora_mandatory) (λ p. IsAuditTruth cs p.when) k.policies h.ordered.unreserved h.truths.audit)

put_enabled : (policy : List ℕ) (e : Enabled) (entries : List (List ℕ × Enabled)) → is_on e ≡ true → with_enablement policy e entries ≡ put_in_order (λ entry. by_name entry.0 policy) (policy, e) entries
put_enabled policy e entries on =
    ap (λ (b : Bool). if b then put_in_order (λ entry. by_name entry.0 policy) (policy, e) entries else without (λ entry. bytes_eq entry.0 policy) entries) on

enabled_lead : (cs : Conditions) (k : Kept) → IsLawful cs k → Leads cs (stage8 k) (map enablement_change k.enabled) (stage9 k)
enabled_lead cs k h =
    let at : List (List ℕ × Enabled) → Kept = λ es. record (stage8 k) { enabled = es } in
    let before : (List ℕ × Enabled) → (List ℕ × Enabled) → Bool = λ a b. name_before a.0 b.0 in
    group cs before enablement_change at (λ e. IsTrue (is_on e.1) × (IsTrue (has_policy k e.0) × IsTrue (list_all (has_user k) (named_users e.1)))) k.enabled
    (λ done e rest split front is. (is.1, ap at (put_enabled e.0 e.1 done is.0 ∙ put_last (λ x. by_name x.0 e.0) e done (before_last before done e front))))
    (by_keys name_before (λ e. e.0) k.enabled h.ordered.enabled)
    (both (λ e. IsTrue (is_on e.1)) (λ e. IsTrue (has_policy k e.0) × IsTrue (list_all (has_user k) (named_users e.1))) k.enabled h.ordered.on h.founded.enabled)

-- the table that passes the test is there
abbrev There : TableName → List AnyTable → Type 0
There name tables = (table : AnyTable) × Contains tables table × (table.name ≡ name)

table_at : (name : TableName) (t : AnyTable) (tables : List AnyTable) (same : Bool) → same_table t.name name ≡ same → (list_any (λ x. same_table x.name name) tables ≡ true → There name tables)
    → (same || list_any (λ x. same_table x.name name) tables) ≡ true → There name (t ∷ tables)
table_at name t tables true is more has =
    let parts = and_parts (bytes_eq t.name.owner name.owner) (bytes_eq t.name.name name.name) is in
    let owner : t.name.owner ≡ name.owner = (bytes_eq-Decides t.name.owner name.owner).0 parts.0 in
    let called : t.name.name ≡ name.name = (bytes_eq-Decides t.name.name name.name).0 parts.1 in
    (t, (0, omega arith, refl), λ i. record { owner = owner i; name = called i })
table_at name t tables false is more has =
    let there = more has in
    (there.0, Contains-append_right (t ∷ []) tables there.0 there.1, there.2)

table_there : (name : TableName) (tables : List AnyTable) → list_any (λ t. same_table t.name name) tables ≡ true → There name tables
table_there name [] has = absurd (let e : false ≡ true = has in cc)
table_there name (t ∷ tables) has = table_at name t tables (same_table t.name name) refl (table_there name tables) has

fga_goes : (cs : Conditions) (k : Kept) (name : TableName) (table : AnyTable) (condition : Option Condition) → IsKeptTable k name table → IsFgaTruth cs k name condition → IsFgaCondition cs table (written_text condition)
fga_goes cs k name table None there is = tt
fga_goes cs k name table (Some condition) there is = (is.0.0, subst (λ (t : Expr). cs.is_truth (Some table) t ≡ true) is.0.1 (is.1 table there))

fga_again : (cs : Conditions) (k : Kept) (name : TableName) (condition : Option Condition) → IsFgaTruth cs k name condition → read_as cs.tree (written_text condition) ≡ condition
fga_again cs k name None is = refl
fga_again cs k name (Some condition) is = λ i. Some (record { text = condition.text; tree = sym is.0.1 i })

fga_lead : (cs : Conditions) (k : Kept) → IsLawful cs k → Leads cs (stage9 k) (map fga_change k.fga) (stage10 k)
fga_lead cs k h =
    let at : List FgaPolicy → Kept = λ ps. record (stage9 k) { fga = ps } in
    let fields : FgaPolicy → List (List ℕ) = λ p. fga_fields p.name.table p.name.policy in
    let before : FgaPolicy → FgaPolicy → Bool = λ a b. fields_before (fields a) (fields b) in
    group cs before fga_change at (λ p. IsTrue (has_table k p.name.table) × IsFgaTruth cs k p.name.table p.condition) k.fga
    (λ done p rest split front is.
    let there = table_there p.name.table k.tables is.0 in (
      (there.0, (there.1, there.2), fga_goes cs k p.name.table there.0 p.condition (there.1, there.2) is.1),
      ap (λ (c : Option Condition). at (put_in_order (λ x. by_fields (fields x) (fields p)) (record p { condition = c }) done)) (fga_again cs k p.name.table p.condition is.1)
          ∙ ap at (put_last (λ x. by_fields (fields x) (fields p)) p done (before_last before done p front)),
    ))
    (by_keys fields_before fields k.fga h.ordered.fga)
    (both (λ p. IsTrue (has_table k p.name.table)) (λ p. IsFgaTruth cs k p.name.table p.condition) k.fga h.founded.fga h.truths.fga)

-- ---- the archive timestamp and the instance

archive_leads : (cs : Conditions) (k : Kept) (archive : Option Stamp) → IsArchive archive → Leads cs (record k { archive = None }) (archive_changes archive) (record k { archive = archive })
archive_leads cs k None is = (tt, refl)
archive_leads cs k (Some stamp) is = ((is, tt), refl)

start_leads : (cs : Conditions) (k : Kept) → IsLawful cs k → Leads cs (stage11 k) (Start k.instance ∷ []) (stage12 k)
start_leads cs k h = (((h.instance, inl refl), tt), refl)

-- ---- all of it

image_leads : ComeBack → (cs : Conditions) (k : Kept) → IsLawful cs k → Leads cs nothing (image_changes k) (stage12 k)
image_leads back cs k h =
    leads_on cs nothing (stage1 k) (stage12 k) _ _ (users_lead cs k h)
    (leads_on cs (stage1 k) (stage2 k) (stage12 k) _ _ (roles_lead cs k h)
    (leads_on cs (stage2 k) (stage3 k) (stage12 k) _ _ (system_lead back cs k h)
    (leads_on cs (stage3 k) (stage4 k) (stage12 k) _ _ (role_grants_lead back cs k h)
    (leads_on cs (stage4 k) (stage5 k) (stage12 k) _ _ (tables_lead cs k h)
    (leads_on cs (stage5 k) (stage6 k) (stage12 k) _ _ (rows_lead cs k h)
    (leads_on cs (stage6 k) (stage7 k) (stage12 k) _ _ (objects_lead back cs k h)
    (leads_on cs (stage7 k) (stage8 k) (stage12 k) _ _ (policies_lead cs k h)
    (leads_on cs (stage8 k) (stage9 k) (stage12 k) _ _ (enabled_lead cs k h)
    (leads_on cs (stage9 k) (stage10 k) (stage12 k) _ _ (fga_lead cs k h)
    (leads_on cs (stage10 k) (stage11 k) (stage12 k) _ _ (archive_leads cs (stage10 k) k.archive h.archive) (start_leads cs k h)))))))))))

-- the changes of an image of what is lawful go on from nothing, one after another
pub image_goes : ComeBack → (cs : Conditions) (k : Kept) → IsLawful cs k → AllGoOn cs true nothing (image_changes k)
image_goes back cs k h = (image_leads back cs k h).0

-- and make of nothing what was kept, but for the trail and the last stamp, which an image has beside them
pub image_back : ComeBack → (cs : Conditions) (k : Kept) → IsLawful cs k → changed_all cs.tree (image_changes k) nothing ≡ record k { trail = []; last = record { 0 = 0 } }
image_back back cs k h = (image_leads back cs k h).1
