-- The changes of statements on tables, users, roles and grants have a spelling.
use Rattle.std.proofs.Common.{◌≡◌, ◌≢◌, ◌∙◌, ◌<◌, ◌≤◌, ◌^◌, Bool, true, false, not, ◌&&◌, ◌||◌, inl, inr, List, [], ◌∷◌, ◌++◌, Some, None, Option, ℕ, map, length, filter, refl, sym, ap, subst, arith}
use Rattle.std.specs.Prelude.{⊤, if◌then◌else◌, get_or, nat_le, nat_lt, IsUtf8}
use Rattle.std.specs.List.{AllByRecursion, list_all}
use Rattle.std.specs.Str.{bytes_eq}
use Rattle.std.proofs.lemmas.Bool.{not-false, or_parts}
use Rattle.std.proofs.lemmas.Bool.Decides.{nat_tests}
use Rattle.std.proofs.lemmas.List.Elements.{All-get_or, All-from_get_or}
use Rattle.std.proofs.lemmas.List.Sums.{AllPass-from_list_all}
use Rattle.std.proofs.lemmas.Str.{IsUtf8-from_ascii}
use Rattle.std.proofs.lemmas.Str.Ascii.{IsAscii-from_all}
use Rattle.sha2.proofs.Facts256.{length-sha256}
use Rattle.au_base.specs.BuiltIn.{audsys, dual_name, owner_in, resolved_table, sys, trail_name}
use Rattle.au_base.specs.Limits.{CATALOG_OBJECTS, TABLE_COLUMNS}
use Rattle.au_base.specs.Naming.{IsName}
use Rattle.au_base.specs.declared.action.Action.{Action}
use Rattle.au_base.specs.declared.code.Code.{Code}
use Rattle.au_base.specs.declared.grant.GrantStatement.{GrantStatement}
use Rattle.au_base.specs.declared.grant.GrantStatement.TheVariants as S
use Rattle.au_base.specs.declared.grant.ObjectRight.{ObjectRight}
use Rattle.au_base.specs.declared.grant.ObjectRight.TheVariants as object
use Rattle.au_base.specs.declared.grant.Right.{Right}
use Rattle.au_base.specs.declared.grant.Right.TheVariants.{Privilege as SystemRight, Role as RoleRight}
use Rattle.au_base.specs.declared.privilege.Privilege.{Privilege}
use Rattle.au_base.specs.declared.table.Column.{Column}
use Rattle.au_base.specs.declared.table.ColumnKind.{ColumnKind}
use Rattle.au_base.specs.declared.table.ColumnKind.TheVariants as kinds
use Rattle.au_base.specs.declared.table.TableName.{TableName}
use Rattle.au_base.specs.declared.table.TableReference.{TableReference}
use Rattle.au_define.specs.Columns.{columns_of, has_column_twice, has_second_key, has_unknown_key, key_names, made_column, made_columns, made_key, names_of}
use Rattle.au_define.specs.Deciding.{Decides, IsSized, IsWellFormed}
use Rattle.au_define.specs.Granting.{DecidesGrant, change_of, known_of}
use Rattle.au_define.specs.Names.{IsElementNamed, IsGrantNamed, IsNamed, IsOwnerNamed, IsRightNamed, IsTableNamed}
use Rattle.au_define.specs.Rules.{Rules, decided, is_broken}
use Rattle.au_define.specs.Settings.{Setting, has_user}
use Rattle.au_define.specs.Tables.{creating_rules, has_too_many, is_own, is_used, may_not_create}
use Rattle.au_define.specs.Users.{has_verifier, verifier}
use Rattle.au_define.proofs.GrantsGo.{all_each, all_made, all_pairs, all_true}
use Rattle.au_define.proofs.NewTable.{key_short, made_length, places_short}
use Rattle.au_define.proofs.Ruled.{for_new_role, for_new_user, for_table_gone, for_user, for_user_gone, needs, to_alter, to_create, to_drop_role, to_drop_table}
use Rattle.au_entries.specs.declared.change.Change.{Change}
use Rattle.au_entries.specs.declared.change.Change.TheVariants as change
use Rattle.au_entries.specs.declared.decision.Decision.{Decision}
use Rattle.au_entries.specs.Replaying.{IsSizeOf}
use Rattle.au_grants.specs.declared.change.GrantChange.{GrantChange}
use Rattle.au_grants.specs.Rights.{Grants, Name}
use Rattle.au_priv.specs.declared.decided.Decided.{Decided}
use Rattle.au_priv.specs.declared.decided.Known.{Known}
use Rattle.au_priv.specs.declared.pair.Way.{Way}
use Rattle.au_priv.specs.declared.pair.Way.TheVariants as way
use Rattle.au_priv.specs.Deciding.{Decides as DecidesStatement, DecidesOnTable, DecidesPairs, DecidesRights}
use Rattle.au_priv.specs.Pairs.{Pair, actions_of, object_change, object_pair, pairs, right_change, right_pair}
use Rattle.au_priv.specs.Walking.{made_all}
use Rattle.rec_codec.specs.Changes.{IsChangeSpellable, created, is_object_action, object_action, object_right, role_grant, role_revoke, system_grant, system_revoke, user}
use Rattle.rec_parts.specs.Parts.{action, name, privilege, table, truth}
use Rattle.rec_parts.specs.Parts as parts
use Rattle.rec_parts.specs.Tables.{column, column_kind, columns, places}
use Rattle.sql_ast.specs.declared.statement.Statement.{Statement}
use Rattle.sql_ast.specs.declared.statement.Statement.TheVariants.{Select, Count, Insert, Update, Delete, Commit, Rollback, CreateTable, DropTable, CreateUser, AlterUser, DropUser, CreateRole, DropRole, Grant, CreatePolicy, DropPolicy, Audit, Noaudit, Call}
use Rattle.sql_ast.specs.declared.table.Element.{Element}
use Rattle.sql_ast.specs.declared.table.Element.TheVariants as element

-- ---- names

abbrev is_ascii : ℕ → Bool
is_ascii b = nat_lt b 128

ascii_byte : (b : ℕ) → is_ascii b ≡ true → b < 128
ascii_byte b h = grind (arith, nat_tests)

ascii : (text : List ℕ) → list_all is_ascii text ≡ true → IsUtf8 text
ascii text h =
    IsUtf8-from_ascii text (IsAscii-from_all text (All-from_get_or (λ b. b < 128) text 0 (λ i inside. ascii_byte (get_or text i 0) (All-get_or (λ x. is_ascii x ≡ true) text i 0 inside (AllPass-from_list_all is_ascii text h)))))

sys_name : IsName sys
sys_name = (record { some = omega arith; capped = omega arith }, ascii sys refl)

audsys_name : IsName audsys
audsys_name = (record { some = omega arith; capped = omega arith }, ascii audsys refl)

name_spelled : (n : List ℕ) → IsName n → name.IsSpellable n
unfolding name
name_spelled n is = let capped = is.0.capped in (omega (arith, capped), is)

-- ---- tables

owner_by : (who : List ℕ) (dual_is trail_is : Bool) → IsName who → IsName (if dual_is then sys else (if trail_is then audsys else who))
owner_by who true trail_is is = sys_name
owner_by who false true is = audsys_name
owner_by who false false is = is

owner_at : (who written : List ℕ) (owner : Option (List ℕ)) → IsName who → IsOwnerNamed owner → IsName (owner_in who written owner)
owner_at who written (Some owner) is named = named
owner_at who written None is named = owner_by who (bytes_eq written dual_name) (bytes_eq written trail_name) is

table_spelled : (who : List ℕ) (reference : TableReference) → IsName who → IsTableNamed reference → table.IsSpellable (resolved_table who reference)
unfolding table
table_spelled who reference is named = (name_spelled (owner_in who reference.name reference.owner) (owner_at who reference.name reference.owner is named.0), name_spelled reference.name named.1)

-- ---- GRANT and REVOKE

abbrev IsSpelledGrant : GrantChange → Type 0
IsSpelledGrant one = IsChangeSpellable (change_of one)

right_spelled : (w : Way) (right : Right) → IsRightNamed right → (grantee : Name) → IsName grantee → AllByRecursion IsSpelledGrant (right_pair w right grantee)
unfolding system_grant system_revoke role_grant role_revoke privilege truth
right_spelled (way.Grant admin) (SystemRight p) named grantee is = ((name_spelled grantee is, (tt, tt)), tt)
right_spelled (way.Grant admin) (RoleRight role) named grantee is = ((name_spelled grantee is, (name_spelled role named, tt)), tt)
right_spelled way.Revoke (SystemRight p) named grantee is = ((name_spelled grantee is, tt), tt)
right_spelled way.Revoke (RoleRight role) named grantee is = ((name_spelled grantee is, name_spelled role named), tt)

actions_spelled : (w : Way) (t : TableName) (grantee : Name) (actions : List Action) → AllByRecursion (λ a. is_object_action a ≡ true) actions → table.IsSpellable t → IsName grantee
    → AllByRecursion IsSpelledGrant (map (object_change w t grantee) actions)
unfolding object_right object_action action
actions_spelled w t grantee [] each there is = tt
actions_spelled (way.Grant admin) t grantee (a ∷ actions) each there is = ((name_spelled grantee is, (there, (tt, each.0))), actions_spelled (way.Grant admin) t grantee actions each.1 there is)
actions_spelled way.Revoke t grantee (a ∷ actions) each there is = ((name_spelled grantee is, (there, (tt, each.0))), actions_spelled way.Revoke t grantee actions each.1 there is)

are_object_actions : (right : ObjectRight) → AllByRecursion (λ a. is_object_action a ≡ true) (actions_of right)
are_object_actions object.Select = (refl, tt)
are_object_actions object.Insert = (refl, tt)
are_object_actions object.Update = (refl, tt)
are_object_actions object.Delete = (refl, tt)
are_object_actions object.All = (refl, (refl, (refl, (refl, tt))))

abbrev AreSpelled : List GrantChange → Type 0
AreSpelled changes = AllByRecursion IsSpelledGrant changes

at_changes : (changes same : List GrantChange) → changes ≡ same → AreSpelled same → AreSpelled changes
at_changes changes same is all = subst (λ (c : List GrantChange). AllByRecursion IsSpelledGrant c) (sym is) all

pairs_spelled : (grants : Grants) (known : Known) (grantees : List Name) (list : List Pair) (code : Code) (changes : List GrantChange) → AllByRecursion (AllByRecursion IsSpelledGrant) list
    → DecidesPairs grants known grantees list code changes → AreSpelled changes
pairs_spelled grants known grantees list code changes all (inl refused) = at_changes changes [] refused.1 tt
pairs_spelled grants known grantees list code changes all (inr (inl refused)) = at_changes changes [] refused.2 tt
pairs_spelled grants known grantees list code changes all (inr (inr done)) = at_changes changes (made_all grants list) done.3 (all_made IsSpelledGrant list grants all)

rights_spelled : (grants : Grants) (known : Known) (who : Name) (w : Way) (rights : List Right) (grantees : List Name) (made : Decided) → AllByRecursion IsRightNamed rights → AllByRecursion IsName grantees
    → DecidesRights grants known who w rights grantees made → AreSpelled made.grants
rights_spelled grants known who w rights grantees made named names (inl refused) = at_changes made.grants [] refused.2 tt
rights_spelled grants known who w rights grantees made named names (inr going) =
    pairs_spelled grants known grantees (pairs (right_pair w) rights grantees) made.code made.grants
    (all_pairs (right_pair w) IsRightNamed IsName (AllByRecursion IsSpelledGrant) (right_spelled w) rights grantees named names) going.2

table_right_spelled : (grants : Grants) (known : Known) (who : Name) (w : Way) (t : TableName) (rights : List ObjectRight) (grantees : List Name) (made : Decided) → table.IsSpellable t → AllByRecursion IsName grantees
    → DecidesOnTable grants known who w t rights grantees made → AreSpelled made.grants
table_right_spelled grants known who w t rights grantees made there names (inl refused) = at_changes made.grants [] refused.2 tt
table_right_spelled grants known who w t rights grantees made there names (inr going) =
    pairs_spelled grants known grantees (pairs (object_pair w t) rights grantees) made.code made.grants
    (all_pairs (object_pair w t) (λ right. ⊤) IsName (AllByRecursion IsSpelledGrant) (λ right any grantee is. actions_spelled w t grantee (actions_of right) (are_object_actions right) there is) rights grantees (all_true rights) names) going.2

grants_spelled : (grants : Grants) (known : Known) (who : Name) (statement : GrantStatement) (made : Decided) → IsName who → IsGrantNamed statement → DecidesStatement grants known who statement made → AreSpelled made.grants
grants_spelled grants known who (S.Grant rights grantees admin) made is named = rights_spelled grants known who (way.Grant admin) rights grantees made named.0 named.1
grants_spelled grants known who (S.Revoke rights grantees) made is named = rights_spelled grants known who way.Revoke rights grantees made named.0 named.1
grants_spelled grants known who (S.GrantObject rights t grantees) made is named = table_right_spelled grants known who (way.Grant false) (resolved_table who t) rights grantees made (table_spelled who t is named.0) named.1
grants_spelled grants known who (S.RevokeObject rights t grantees) made is named = table_right_spelled grants known who way.Revoke (resolved_table who t) rights grantees made (table_spelled who t is named.0) named.1

abbrev AllSpelled : List Change → Type 0
AllSpelled changes = AllByRecursion IsChangeSpellable changes

all_mapped : (changes : List GrantChange) → AreSpelled changes → AllSpelled (map change_of changes)
all_mapped [] all = tt
all_mapped (one ∷ changes) all = (all.0, all_mapped changes all.1)

-- ---- CREATE TABLE

size_at : (kind : ColumnKind) (size : ℕ) → IsSizeOf kind size → size < 65536
size_at kinds.Number size sized = let few = sized.1 in omega (arith, few)
size_at kinds.Text size sized = let few = sized.1 in omega (arith, few)
size_at kinds.Moment size sized = omega (arith, sized)

size_short : (one : Column) → IsSizeOf one.kind one.size → one.size < 65536
size_short one sized = size_at one.kind one.size sized

columns_spelled : (key : List (List ℕ)) (elements : List Element) → AllByRecursion IsElementNamed elements → AllByRecursion IsSized elements → AllByRecursion column.IsSpellable (map (made_column key) (columns_of elements))
unfolding column column_kind truth
columns_spelled key [] named sized = tt
columns_spelled key (element.Column one primary ∷ elements) named sized =
    ((name_spelled one.name named.0, (tt, (size_short one sized.0, tt))), columns_spelled key elements named.1 sized.1)
columns_spelled key (element.PrimaryKey names ∷ elements) named sized = columns_spelled key elements named.1 sized.1

few_columns : (n : ℕ) → nat_lt TABLE_COLUMNS n ≡ false → n ≤ 64
few_columns n is = grind (arith, nat_tests)

bytes_of : (n : ℕ) (ks : List ℕ) → n ≤ 64 → AllByRecursion (λ k. k < n) ks → AllByRecursion (λ k. k < 256) ks
bytes_of n [] few all = tt
bytes_of n (k ∷ ks) few all = (let first = all.0 in omega (arith, few, first), bytes_of n ks few all.1)

second : (a b : Bool) → (a || b) ≡ false → b ≡ false
second a b is = (or_parts a b is).1

-- of six rules of which none is broken, the third and those behind it aren't
all_clear : (a b c d e f : Bool) → (a || (b || (c || (d || (e || (f || false)))))) ≡ false → (c ≡ false) × (d ≡ false) × (e ≡ false) × (f ≡ false)
all_clear a b c d e f is =
    let third = second b (c || (d || (e || (f || false)))) (second a (b || (c || (d || (e || (f || false))))) is) in
    let fourth = or_parts c (d || (e || (f || false))) third in
    let fifth = or_parts d (e || (f || false)) fourth.1 in
    let sixth = or_parts e (f || false) fifth.1 in
    (fourth.0, fifth.0, sixth.0, (or_parts f false sixth.1).0)

new_table_spelled : (setting : Setting) (t : TableName) (elements : List Element) → table.IsSpellable t → AllByRecursion IsElementNamed elements → AllByRecursion IsSized elements → is_broken (creating_rules setting t elements) ≡ false
    → created.IsSpellable (t, (made_columns elements, made_key elements))
unfolding created columns places
new_table_spelled setting t elements there named sized clear =
    let clears = all_clear (not (is_own setting t) && not (has_user setting t.owner)) (is_used setting t) (has_column_twice elements) (has_second_key elements) (has_unknown_key elements) (has_too_many setting elements) clear in
    let few = few_columns (length (names_of elements)) (or_parts (nat_le CATALOG_OBJECTS (length setting.tables)) (nat_lt TABLE_COLUMNS (length (names_of elements))) clears.3).1 in
    let long = made_length elements in
    let short = key_short elements clears.0 clears.1 clears.2 in
    (there, ((omega (arith, few, long), columns_spelled (key_names elements) elements named sized), (omega (arith, few, short), bytes_of (length (names_of elements)) (made_key elements) few (places_short elements clears.2))))

-- ---- all of them

at_test : (broken : Bool) (changes : List Change) → (broken ≡ false → AllSpelled changes) → AllSpelled (if broken then [] else changes)
at_test true changes goes = tt
at_test false changes goes = goes refl

by_rules : (rights others : Rules) (needed : List Privilege) (changes : List Change) (decision : Decision) → decision ≡ decided rights others needed changes
    → (is_broken (rights ++ others) ≡ false → AllSpelled changes) → AllSpelled decision.changes
by_rules rights others needed changes decision is goes = subst (λ (d : Decision). AllByRecursion IsChangeSpellable d.changes) (sym is) (at_test (is_broken (rights ++ others)) changes goes)

user_spelled : (n password : List ℕ) → IsName n → user.IsSpellable (n, verifier n password)
unfolding user parts.verifier
user_spelled n password is = (name_spelled n is, length-sha256 (n ++ 0 ∷ password))

set_spelled : (same : Bool) (n password : List ℕ) → IsName n → AllSpelled (if same then [] else change.User n (verifier n password) ∷ [])
set_spelled true n password is = tt
set_spelled false n password is = (user_spelled n password is, tt)

role_spelled : (who role : List ℕ) → IsName who → IsName role → AllSpelled (change.Role role ∷ change.RoleGrant who role true ∷ [])
unfolding role_grant truth
role_spelled who role is named = (name_spelled role named, ((name_spelled who is, (name_spelled role named, tt)), tt))

pub spelled : (setting : Setting) (statement : Statement) (decision : Decision) → IsNamed statement → IsName setting.user → IsWellFormed statement → Decides setting statement decision → AllSpelled decision.changes
spelled setting (CreateTable create) decision named is formed (held, own, any, are) =
    let t = resolved_table setting.user create.table in
    by_rules (to_create held setting t) (creating_rules setting t create.elements) _ _ decision are
    (λ clear. (new_table_spelled setting t create.elements (table_spelled setting.user create.table is named.0) named.1 formed.1 (second (may_not_create held setting t) (is_broken (creating_rules setting t create.elements)) clear), tt))
spelled setting (Grant grant) decision named is formed (made, decides, are) =
    subst (λ (d : Decision). AllByRecursion IsChangeSpellable d.changes) (sym are) (all_mapped made.grants (grants_spelled setting.grants (known_of setting) setting.user grant made is named decides))
spelled setting (DropTable reference) decision named is formed (held, code, tells, refuses, are) =
    by_rules (to_drop_table held code setting (resolved_table setting.user reference)) (for_table_gone setting (resolved_table setting.user reference)) _ _ decision are (λ clear. (table_spelled setting.user reference is named, tt))
spelled setting (CreateUser n password) decision named is formed (held, tells, are) =
    by_rules (needs held) (for_new_user setting n) _ _ decision are (λ clear. (user_spelled n password.text named, tt))
spelled setting (AlterUser n password) decision named is formed (held, tells, are) =
    by_rules (to_alter held setting n) (for_user setting n) _ _ decision are (λ clear. set_spelled (has_verifier setting n (verifier n password.text)) n password.text named)
spelled setting (DropUser n) decision named is formed (held, tells, are) =
    by_rules (needs held) (for_user_gone setting n) _ _ decision are (λ clear. (name_spelled n named, tt))
spelled setting (CreateRole role) decision named is formed (held, tells, are) =
    by_rules (needs held) (for_new_role setting role) _ _ decision are (λ clear. role_spelled setting.user role is named)
spelled setting (DropRole role) decision named is formed (admin, held, tells, told, are) =
    by_rules (to_drop_role admin held setting role) [] _ _ decision are (λ clear. (name_spelled role named, tt))
spelled setting (Select x) decision named is formed never = absurd never
spelled setting (Count x) decision named is formed never = absurd never
spelled setting (Insert x) decision named is formed never = absurd never
spelled setting (Update x) decision named is formed never = absurd never
spelled setting (Delete x) decision named is formed never = absurd never
spelled setting Commit decision named is formed never = absurd never
spelled setting Rollback decision named is formed never = absurd never
spelled setting (CreatePolicy x) decision named is formed never = absurd never
spelled setting (DropPolicy x) decision named is formed never = absurd never
spelled setting (Audit x) decision named is formed never = absurd never
spelled setting (Noaudit x y) decision named is formed never = absurd never
spelled setting (Call x) decision named is formed never = absurd never
