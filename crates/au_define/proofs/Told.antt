-- The code and the privileges of what is decided can be written into a record.
use Rattle.std.proofs.Common.{◌≡◌, ◌∙◌, ◌<◌, ◌^◌, Bool, true, false, not, ◌&&◌, ◌||◌, inl, inr, List, [], ◌∷◌, ◌++◌, Some, None, ℕ, refl, sym, ap, subst, arith}
use Rattle.std.specs.Prelude.{if◌then◌else◌, unwrap_or}
use Rattle.std.specs.List.{AllByRecursion}
use Rattle.std.specs.Str.{bytes_eq}
use Rattle.au_base.specs.BuiltIn.{resolved_table}
use Rattle.au_base.specs.Codes.{DONE}
use Rattle.au_base.specs.FirstCode.{first_code}
use Rattle.au_base.specs.declared.code.Code.{Code}
use Rattle.au_base.specs.declared.grant.GrantStatement.{GrantStatement}
use Rattle.au_base.specs.declared.grant.GrantStatement.TheVariants as S
use Rattle.au_base.specs.declared.grant.ObjectRight.{ObjectRight}
use Rattle.au_base.specs.declared.grant.Right.{Right}
use Rattle.au_base.specs.declared.privilege.Privilege.{Privilege}
use Rattle.au_base.specs.declared.privilege.Privilege.TheVariants as privilege
use Rattle.au_base.specs.declared.table.TableName.{TableName}
use Rattle.au_define.specs.Deciding.{Decides}
use Rattle.au_define.specs.Granting.{known_of}
use Rattle.au_define.specs.Rules.{Rules, decided, is_broken}
use Rattle.au_define.specs.Settings.{Setting}
use Rattle.au_define.specs.Tables.{creating_rules, is_own}
use Rattle.au_define.proofs.Ruled.{for_new_role, for_new_user, for_table_gone, for_user, for_user_gone, needs, to_alter, to_create, to_drop_role, to_drop_table}
use Rattle.au_entries.specs.declared.change.Change.{Change}
use Rattle.au_entries.specs.declared.decision.Decision.{Decision}
use Rattle.au_grants.specs.declared.change.GrantChange.{GrantChange}
use Rattle.au_grants.specs.declared.change.GrantChange.TheVariants.{SystemRevoke, RoleRevoke, ObjectRevoke, SystemGrant, RoleGrant, ObjectGrant, UserGone, RoleGone, TableGone}
use Rattle.au_grants.specs.Changing.{applied_all}
use Rattle.au_grants.specs.Rights.{Grants, Name}
use Rattle.au_priv.specs.declared.decided.Decided.{Decided}
use Rattle.au_priv.specs.declared.decided.Known.{Known}
use Rattle.au_priv.specs.declared.pair.Way.{Way}
use Rattle.au_priv.specs.declared.pair.Way.TheVariants as way
use Rattle.au_priv.specs.Allowing.{IsRefusal}
use Rattle.au_priv.specs.Deciding.{Decides as DecidesStatement, DecidesOnTable, DecidesPairs, DecidesRights, FirstRefused, IsUsed, IsUsedOnTable, RefusesGrantee, RefusesRight, RefusesTable}
use Rattle.au_priv.specs.Pairs.{Pair, object_pair, pairs, right_pair}
use Rattle.au_priv.specs.Walking.{RefusesPair, SomeRefused, made, missing_code}
use Rattle.rec_parts.specs.Parts.{privileges_in_order}
use Rattle.rec_parts.specs.Parts as parts
use Rattle.sql_ast.specs.declared.statement.Statement.{Statement}
use Rattle.sql_ast.specs.declared.statement.Statement.TheVariants.{Select, Count, Insert, Update, Delete, Commit, Rollback, CreateTable, DropTable, CreateUser, AlterUser, DropUser, CreateRole, DropRole, Grant, CreatePolicy, DropPolicy, Audit, Noaudit, Call}

abbrev IsSmall : Code → Type 0
IsSmall code = code.0 < 2 ^ 32

abbrev IsUsable : List Privilege → Type 0
IsUsable used = privileges_in_order.IsSpellable used

abbrev pub IsTold : Decision → Type 0
IsTold decision = (decision.code.0 < 2 ^ 32) × privileges_in_order.IsSpellable decision.used

none_used : IsUsable []
unfolding privileges_in_order
none_used = ((omega arith, tt), refl)

-- ---- rules

abbrev AreSmall : Rules → Type 0
AreSmall rules = AllByRecursion (λ (rule : Bool × Code). rule.1.0 < 2 ^ 32) rules

first_small : (rules : Rules) → AllByRecursion (λ (rule : Bool × Code). rule.1.0 < 2 ^ 32) rules → (first_code rules).0 < 2 ^ 32
first_small [] small = omega arith
first_small ((true, code) ∷ rules) small = small.0
first_small ((false, code) ∷ rules) small = first_small rules small.1

used_at : (broken : Bool) (needed : List Privilege) → IsUsable needed → IsUsable (if broken then [] else needed)
used_at true needed usable = none_used
used_at false needed usable = usable

by_rules : (rights others : Rules) (needed : List Privilege) (changes : List Change) (decision : Decision) → decision ≡ decided rights others needed changes
    → AllByRecursion (λ (rule : Bool × Code). rule.1.0 < 2 ^ 32) (rights ++ others) → IsUsable needed → IsTold decision
by_rules rights others needed changes decision is small usable =
    subst (λ (d : Decision). IsTold d) (sym is) (first_small (rights ++ others) small, used_at (is_broken rights) needed usable)

refusal_small : (grants : Grants) (user : Name) (table : TableName) (code : Code) → IsRefusal grants user table code → IsSmall code
refusal_small grants user table code (inl has) = subst (λ (c : Code). c.0 < 2 ^ 32) (sym has.1) (omega arith)
refusal_small grants user table code (inr not) = subst (λ (c : Code). c.0 < 2 ^ 32) (sym not.1) (omega arith)

-- ---- the privileges that statements need

to_create_used : (own : Bool) → IsUsable ((if own then privilege.CreateTable else privilege.CreateAnyTable) ∷ [])
unfolding privileges_in_order parts.privilege
to_create_used true = ((omega arith, (tt, tt)), refl)
to_create_used false = ((omega arith, (tt, tt)), refl)

to_drop_used : (own : Bool) → IsUsable (if own then [] else privilege.DropAnyTable ∷ [])
unfolding privileges_in_order parts.privilege
to_drop_used true = ((omega arith, tt), refl)
to_drop_used false = ((omega arith, (tt, tt)), refl)

to_alter_used : (own : Bool) → IsUsable (if own then [] else privilege.AlterUser ∷ [])
unfolding privileges_in_order parts.privilege
to_alter_used true = ((omega arith, tt), refl)
to_alter_used false = ((omega arith, (tt, tt)), refl)

to_drop_role_used : (own : Bool) → IsUsable (if own then [] else privilege.DropAnyRole ∷ [])
unfolding privileges_in_order parts.privilege
to_drop_role_used true = ((omega arith, tt), refl)
to_drop_role_used false = ((omega arith, (tt, tt)), refl)

create_user_used : IsUsable (privilege.CreateUser ∷ [])
unfolding privileges_in_order parts.privilege
create_user_used = ((omega arith, (tt, tt)), refl)

drop_user_used : IsUsable (privilege.DropUser ∷ [])
unfolding privileges_in_order parts.privilege
drop_user_used = ((omega arith, (tt, tt)), refl)

create_role_used : IsUsable (privilege.CreateRole ∷ [])
unfolding privileges_in_order parts.privilege
create_role_used = ((omega arith, (tt, tt)), refl)

both_used : (one other : Bool) → IsUsable ((if one then privilege.GrantAnyPrivilege ∷ [] else []) ++ (if other then privilege.GrantAnyRole ∷ [] else []))
unfolding privileges_in_order parts.privilege
both_used true true = ((omega arith, (tt, (tt, tt))), refl)
both_used true false = ((omega arith, (tt, tt)), refl)
both_used false true = ((omega arith, (tt, tt)), refl)
both_used false false = ((omega arith, tt), refl)

any_object_used : IsUsable (privilege.GrantAnyObjectPrivilege ∷ [])
unfolding privileges_in_order parts.privilege
any_object_used = ((omega arith, (tt, tt)), refl)

-- ---- GRANT and REVOKE

at_code : (code literal : Code) → code ≡ literal → IsSmall literal → IsSmall code
at_code code literal is small = subst (λ (c : Code). c.0 < 2 ^ 32) (sym is) small

at_used : (used literal : List Privilege) → used ≡ literal → IsUsable literal → IsUsable used
at_used used literal is usable = subst (λ (u : List Privilege). privileges_in_order.IsSpellable u) (sym is) usable

first_refused : {X : Type 0} (Refuses : X → Code → Type 0) → ((x : X) (code : Code) → Refuses x code → IsSmall code) → (xs : List X) (code : Code) → FirstRefused Refuses xs code → IsSmall code
first_refused Refuses small xs code (k, x, at, refuses, before) = small x code refuses

right_small : (grants : Grants) (known : Known) (user : Name) (right : Right) (code : Code) → RefusesRight grants known user right code → IsSmall code
right_small grants known user right code (inl one) = at_code code _ one.1 (omega arith)
right_small grants known user right code (inr other) = at_code code _ other.3 (omega arith)

grantee_small : (known : Known) (grantee : Name) (code : Code) → RefusesGrantee known grantee code → IsSmall code
grantee_small known grantee code refuses = at_code code _ refuses.2 (omega arith)

table_small : (grants : Grants) (known : Known) (user : Name) (table : TableName) (code : Code) → RefusesTable grants known user table code → IsSmall code
table_small grants known user table code (inl one) = at_code code _ one.1 (omega arith)
table_small grants known user table code (inr (inl one)) = at_code code _ one.2 (omega arith)
table_small grants known user table code (inr (inr one)) = refusal_small grants user table code one.4

some_code : (one other : Code) → Some one ≡ Some other → one ≡ other
some_code one other is = ap (λ o. unwrap_or o one) is

missing_small : (pair : Pair) (code : Code) → missing_code pair ≡ Some code → IsSmall code
missing_small (SystemRevoke grantee p ∷ pair) code is = at_code code _ (sym (some_code _ code is)) (omega arith)
missing_small (RoleRevoke grantee role ∷ pair) code is = at_code code _ (sym (some_code _ code is)) (omega arith)
missing_small (ObjectRevoke grantee table action ∷ pair) code is = at_code code _ (sym (some_code _ code is)) (omega arith)
missing_small [] code is = absurd (let e : None ≡ Some code = is in cc)
missing_small (SystemGrant grantee p admin ∷ pair) code is = absurd (let e : None ≡ Some code = is in cc)
missing_small (RoleGrant grantee role admin ∷ pair) code is = absurd (let e : None ≡ Some code = is in cc)
missing_small (ObjectGrant grantee table action ∷ pair) code is = absurd (let e : None ≡ Some code = is in cc)
missing_small (UserGone x ∷ pair) code is = absurd (let e : None ≡ Some code = is in cc)
missing_small (RoleGone x ∷ pair) code is = absurd (let e : None ≡ Some code = is in cc)
missing_small (TableGone x ∷ pair) code is = absurd (let e : None ≡ Some code = is in cc)

pair_small : (grants : Grants) (pair : Pair) (code : Code) → RefusesPair grants pair code → IsSmall code
pair_small grants pair code (inl one) = at_code code _ one.1 (omega arith)
pair_small grants pair code (inr (inl one)) = at_code code _ one.2 (omega arith)
pair_small grants pair code (inr (inr one)) = missing_small pair code one.1

pairs_small : (grants : Grants) (list : List Pair) (code : Code) → SomeRefused grants list code → IsSmall code
pairs_small grants [] code never = absurd never
pairs_small grants (pair ∷ list) code (inl one) = pair_small grants pair code one
pairs_small grants (pair ∷ list) code (inr other) = pairs_small (applied_all (made grants pair) grants) list code other.1

decided_small : (grants : Grants) (known : Known) (grantees : List Name) (list : List Pair) (code : Code) (changes : List GrantChange) → DecidesPairs grants known grantees list code changes → IsSmall code
decided_small grants known grantees list code changes (inl refused) = first_refused (RefusesGrantee known) (grantee_small known) grantees code refused.0
decided_small grants known grantees list code changes (inr (inl refused)) = pairs_small grants list code refused.1
decided_small grants known grantees list code changes (inr (inr done)) = at_code code DONE done.2 (omega arith)

rights_told : (grants : Grants) (known : Known) (user : Name) (w : Way) (rights : List Right) (grantees : List Name) (made : Decided) → DecidesRights grants known user w rights grantees made → IsSmall made.code × IsUsable made.used
rights_told grants known user w rights grantees made (inl refused) =
    (first_refused (RefusesRight grants known user) (right_small grants known user) rights made.code refused.0, at_used made.used [] refused.1 none_used)
rights_told grants known user w rights grantees made (inr (passes, (one, other, tells, says, is), going)) =
    (decided_small grants known grantees (pairs (right_pair w) rights grantees) made.code made.grants going, at_used made.used _ is (both_used one other))

on_table_used : (user : Name) (table : TableName) (used : List Privilege) → IsUsedOnTable user table used → IsUsable used
on_table_used user table used (inl own) = at_used used [] own.1 none_used
on_table_used user table used (inr other) = at_used used _ other.1 any_object_used

table_told : (grants : Grants) (known : Known) (user : Name) (w : Way) (table : TableName) (rights : List ObjectRight) (grantees : List Name) (made : Decided) → DecidesOnTable grants known user w table rights grantees made
    → IsSmall made.code × IsUsable made.used
table_told grants known user w table rights grantees made (inl refused) = (table_small grants known user table made.code refused.0, at_used made.used [] refused.1 none_used)
table_told grants known user w table rights grantees made (inr going) =
    (decided_small grants known grantees (pairs (object_pair w table) rights grantees) made.code made.grants going.2, on_table_used user table made.used going.1)

grants_told : (grants : Grants) (known : Known) (user : Name) (statement : GrantStatement) (made : Decided) → DecidesStatement grants known user statement made → IsSmall made.code × IsUsable made.used
grants_told grants known user (S.Grant rights grantees admin) made = rights_told grants known user (way.Grant admin) rights grantees made
grants_told grants known user (S.Revoke rights grantees) made = rights_told grants known user way.Revoke rights grantees made
grants_told grants known user (S.GrantObject rights table grantees) made = table_told grants known user (way.Grant false) (resolved_table user table) rights grantees made
grants_told grants known user (S.RevokeObject rights table grantees) made = table_told grants known user way.Revoke (resolved_table user table) rights grantees made

-- ---- all of them

pub told : (setting : Setting) (statement : Statement) (decision : Decision) → Decides setting statement decision → IsTold decision
told setting (CreateTable create) decision (held, own, any, is) =
    let name = resolved_table setting.user create.table in
    by_rules (to_create held setting name) (creating_rules setting name create.elements) _ _ decision is
    (omega arith, (omega arith, (omega arith, (omega arith, (omega arith, (omega arith, (omega arith, tt))))))) (to_create_used (is_own setting name && held.own))
told setting (Grant grant) decision (made, decides, is) =
    subst (λ (d : Decision). IsTold d) (sym is) (grants_told setting.grants (known_of setting) setting.user grant made decides)
told setting (DropTable table) decision (held, code, tells, refuses, is) =
    let name = resolved_table setting.user table in
    by_rules (to_drop_table held code setting name) (for_table_gone setting name) _ _ decision is
    (omega arith, (omega arith, (omega arith, (refusal_small setting.grants setting.user name code refuses, (omega arith, tt))))) (to_drop_used (is_own setting name))
told setting (CreateUser name password) decision (held, tells, is) =
    by_rules (needs held) (for_new_user setting name) _ _ decision is (omega arith, (omega arith, (omega arith, tt))) create_user_used
told setting (AlterUser name password) decision (held, tells, is) =
    by_rules (to_alter held setting name) (for_user setting name) _ _ decision is (omega arith, (omega arith, tt)) (to_alter_used (bytes_eq name setting.user))
told setting (DropUser name) decision (held, tells, is) =
    by_rules (needs held) (for_user_gone setting name) _ _ decision is (omega arith, (omega arith, (omega arith, (omega arith, (omega arith, tt))))) drop_user_used
told setting (CreateRole role) decision (held, tells, is) =
    by_rules (needs held) (for_new_role setting role) _ _ decision is (omega arith, (omega arith, (omega arith, tt))) create_role_used
told setting (DropRole role) decision (admin, held, tells, says, is) =
    by_rules (to_drop_role admin held setting role) [] _ _ decision is (omega arith, (omega arith, (omega arith, tt))) (to_drop_role_used admin)
told setting (Select x) decision never = absurd never
told setting (Count x) decision never = absurd never
told setting (Insert x) decision never = absurd never
told setting (Update x) decision never = absurd never
told setting (Delete x) decision never = absurd never
told setting Commit decision never = absurd never
told setting Rollback decision never = absurd never
told setting (CreatePolicy x) decision never = absurd never
told setting (DropPolicy x) decision never = absurd never
told setting (Audit x) decision never = absurd never
told setting (Noaudit x y) decision never = absurd never
told setting (Call x) decision never = absurd never
