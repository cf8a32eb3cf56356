-- GRANT and REVOKE have one decision.
use Rattle.std.proofs.Common.{◌≡◌, ◌∙◌, suc, zero, Bool, true, false, ◌⊎◌, List, [], ◌∷◌, ◌++◌, Some, None, ℕ, inl, inr, map, length, filter, refl, sym, ap, subst, arith}
use Rattle.std.specs.Prelude.{if◌then◌else◌, unwrap_or}
use Rattle.std.specs.List.{AllByRecursion, list_all, slice_get}
use Rattle.std.proofs.lemmas.Bool.{and_parts, cases_order}
use Rattle.au_base.specs.BuiltIn.{resolved_table}
use Rattle.au_base.specs.declared.code.Code.{Code}
use Rattle.au_base.specs.declared.grant.GrantStatement.{GrantStatement}
use Rattle.au_base.specs.declared.grant.GrantStatement.TheVariants as S
use Rattle.au_base.specs.declared.grant.ObjectRight.{ObjectRight}
use Rattle.au_base.specs.declared.grant.ObjectRight.TheVariants as object
use Rattle.au_base.specs.declared.grant.Right.{Right}
use Rattle.au_base.specs.declared.grant.Right.TheVariants.{Privilege as SystemRight, Role}
use Rattle.au_base.specs.declared.privilege.Privilege.{Privilege}
use Rattle.au_base.specs.declared.privilege.Privilege.TheVariants.{GrantAnyPrivilege, GrantAnyRole}
use Rattle.au_base.specs.declared.table.TableName.{TableName}
use Rattle.au_define.proofs.Same.{same_refusal, same_test}
use Rattle.au_grants.specs.declared.change.GrantChange.{GrantChange}
use Rattle.au_grants.specs.declared.change.GrantChange.TheVariants.{UserGone, RoleGone, SystemGrant, SystemRevoke, RoleGrant, RoleRevoke, ObjectGrant, ObjectRevoke, TableGone}
use Rattle.au_grants.specs.Changing.{Closes, applied_all, is_new}
use Rattle.au_grants.specs.Rights.{Grants, Name, RoleEntry}
use Rattle.au_priv.specs.declared.decided.Decided.{Decided}
use Rattle.au_priv.specs.declared.decided.Known.{Known}
use Rattle.au_priv.specs.declared.pair.Way.{Way}
use Rattle.au_priv.specs.declared.pair.Way.TheVariants as way
use Rattle.au_priv.specs.Deciding.{Decides, DecidesOnTable, DecidesPairs, DecidesRights, FirstRefused, IsUsed, IsUsedOnTable, NoneRefused, RefusesGrantee, RefusesRight, RefusesTable}
use Rattle.au_priv.specs.Pairs.{Pair, object_pair, pairs, right_pair}
use Rattle.au_priv.specs.Walking.{AllPass, ClosesCircle, IsOverLimit, RefusesPair, SomeRefused, made, missing_code}

-- ---- the first that is refused

some_one : {X : Type 0} (x y : X) → Some x ≡ Some y → x ≡ y
some_one x y same = ap (λ o. unwrap_or o x) same

first_one : {X : Type 0} (Refuses : X → Code → Type 0) → ((x : X) (a b : Code) → Refuses x a → Refuses x b → a ≡ b) → (xs : List X) (a b : Code) → FirstRefused Refuses xs a → FirstRefused Refuses xs b → a ≡ b
first_one Refuses unique xs a b (k, x, at, refuses, before) (l, y, there, refused, earlier) = elim (cases_order k l) [
  | inl same ↦ (let one : x ≡ y = some_one x y (sym at ∙ ap (slice_get xs) same ∙ there) in unique y a b (subst (λ z. Refuses z a) one refuses) refused)
  | inr apart ↦ elim apart [
    | inl less ↦ absurd (earlier k x a less at refuses)
    | inr more ↦ absurd (before l y b more there refused)
  ]
]

none_first : {X : Type 0} (Refuses : X → Code → Type 0) (xs : List X) (a : Code) → NoneRefused Refuses xs → FirstRefused Refuses xs a → ⊥
none_first Refuses xs a none (k, x, at, refuses, before) = none k x a at refuses

right_one : (grants : Grants) (known : Known) (user : Name) (right : Right) (a b : Code) → RefusesRight grants known user right a → RefusesRight grants known user right b → a ≡ b
right_one grants known user right a b (inl one) (inl other) = one.1 ∙ sym other.1
right_one grants known user right a b (inl one) (inr other) = absurd (other.0 one.0)
right_one grants known user right a b (inr one) (inl other) = absurd (one.0 other.0)
right_one grants known user right a b (inr one) (inr other) = one.3 ∙ sym other.3

grantee_one : (known : Known) (grantee : Name) (a b : Code) → RefusesGrantee known grantee a → RefusesGrantee known grantee b → a ≡ b
grantee_one known grantee a b one other = one.2 ∙ sym other.2

table_one : (grants : Grants) (known : Known) (user : Name) (table : TableName) (a b : Code) → RefusesTable grants known user table a → RefusesTable grants known user table b → a ≡ b
table_one grants known user table a b (inl one) (inl other) = one.1 ∙ sym other.1
table_one grants known user table a b (inl one) (inr (inl other)) = absurd (other.0 one.0)
table_one grants known user table a b (inl one) (inr (inr other)) = absurd (other.0 one.0)
table_one grants known user table a b (inr (inl one)) (inl other) = absurd (one.0 other.0)
table_one grants known user table a b (inr (inl one)) (inr (inl other)) = one.2 ∙ sym other.2
table_one grants known user table a b (inr (inl one)) (inr (inr other)) = absurd (one.1 other.1)
table_one grants known user table a b (inr (inr one)) (inl other) = absurd (one.0 other.0)
table_one grants known user table a b (inr (inr one)) (inr (inl other)) = absurd (other.1 one.1)
table_one grants known user table a b (inr (inr one)) (inr (inr other)) = same_refusal grants user table a b one.4 other.4

-- ---- what is used

used_by : Bool → Bool → List Privilege
used_by privilege role = (if privilege then GrantAnyPrivilege ∷ [] else []) ++ (if role then GrantAnyRole ∷ [] else [])

used_one : (grants : Grants) (user : Name) (rights : List Right) (a b : List Privilege) → IsUsed grants user rights a → IsUsed grants user rights b → a ≡ b
unfolding used_by
used_one grants user rights a b (p, r, tells, says, is) (q, s, told, said, are) =
    is ∙ ap (λ x. used_by x r) (same_test _ p q tells told) ∙ ap (used_by q) (same_test _ r s says said) ∙ sym are

used_on_one : (user : Name) (table : TableName) (a b : List Privilege) → IsUsedOnTable user table a → IsUsedOnTable user table b → a ≡ b
used_on_one user table a b (inl one) (inl other) = one.1 ∙ sym other.1
used_on_one user table a b (inl one) (inr other) = absurd (other.0 one.0)
used_on_one user table a b (inr one) (inl other) = absurd (one.0 other.0)
used_on_one user table a b (inr one) (inr other) = one.1 ∙ sym other.1

-- ---- pairs

-- a change that revokes
revokes : GrantChange → Bool
revokes (SystemRevoke grantee privilege) = true
revokes (RoleRevoke grantee role) = true
revokes (ObjectRevoke grantee table action) = true
revokes _ = false

no_circle : (roles : List RoleEntry) (change : GrantChange) → revokes change ≡ true → Closes roles change → ⊥
unfolding revokes
no_circle roles (RoleGrant grantee role admin) is closes = let e : false ≡ true = is in absurd cc
no_circle roles (UserGone x) is closes = closes
no_circle roles (RoleGone x) is closes = closes
no_circle roles (SystemGrant x y z) is closes = closes
no_circle roles (SystemRevoke x y) is closes = closes
no_circle roles (RoleRevoke x y) is closes = closes
no_circle roles (ObjectGrant x y z) is closes = closes
no_circle roles (ObjectRevoke x y z) is closes = closes
no_circle roles (TableGone x) is closes = closes

not_new : (grants : Grants) (change : GrantChange) → revokes change ≡ true → is_new grants change ≡ false
unfolding revokes
not_new grants (SystemRevoke x y) is = refl
not_new grants (RoleRevoke x y) is = refl
not_new grants (ObjectRevoke x y z) is = refl
not_new grants (UserGone x) is = refl
not_new grants (RoleGone x) is = refl
not_new grants (TableGone x) is = refl
not_new grants (SystemGrant x y z) is = absurd (let e : false ≡ true = is in cc)
not_new grants (RoleGrant x y z) is = absurd (let e : false ≡ true = is in cc)
not_new grants (ObjectGrant x y z) is = absurd (let e : false ≡ true = is in cc)

at_place : (pair : Pair) (place : ℕ) (change : GrantChange) → list_all revokes pair ≡ true → slice_get pair place ≡ Some change → revokes change ≡ true
at_place [] place change all is = absurd cc
at_place (first ∷ pair) zero change all is = sym (ap revokes (some_one first change is)) ∙ (and_parts (revokes first) (list_all revokes pair) all).0
at_place (first ∷ pair) (suc place) change all is = at_place pair place change (and_parts (revokes first) (list_all revokes pair) all).1 is

none_new : (grants : Grants) (pair : Pair) → list_all revokes pair ≡ true → filter (is_new grants) pair ≡ []
none_new grants [] all = refl
none_new grants (first ∷ pair) all =
    let parts = and_parts (revokes first) (list_all revokes pair) all in
    rw (not_new grants first parts.0) (none_new grants pair parts.1)

-- a pair revokes only, or no code says that what it revokes is missing
abbrev OneWay : Pair → Type 0
OneWay pair = (list_all revokes pair ≡ true) ⊎ (missing_code pair ≡ None)

no_missing : (pair : Pair) (code : Code) → missing_code pair ≡ None → missing_code pair ≡ Some code → ⊥
no_missing pair code none some = let e : None ≡ Some code = sym none ∙ some in absurd cc

circle_apart : (grants : Grants) (pair : Pair) (code : Code) → OneWay pair → ClosesCircle grants.role pair → missing_code pair ≡ Some code → ⊥
circle_apart grants pair code (inl all) (place, change, at, closes) missing = no_circle grants.role change (at_place pair place change all at) closes
circle_apart grants pair code (inr none) closes missing = no_missing pair code none missing

limit_apart : (grants : Grants) (pair : Pair) (code : Code) → OneWay pair → IsOverLimit grants pair → missing_code pair ≡ Some code → ⊥
limit_apart grants pair code (inl all) over missing = let none = ap length (none_new grants pair all) in omega (arith, none, over.0)
limit_apart grants pair code (inr none) over missing = no_missing pair code none missing

pair_one : (grants : Grants) (pair : Pair) (a b : Code) → OneWay pair → RefusesPair grants pair a → RefusesPair grants pair b → a ≡ b
pair_one grants pair a b only (inl one) (inl other) = one.1 ∙ sym other.1
pair_one grants pair a b only (inl one) (inr (inl other)) = absurd (other.0 one.0)
pair_one grants pair a b only (inl one) (inr (inr other)) = absurd (circle_apart grants pair b only one.0 other.1)
pair_one grants pair a b only (inr (inl one)) (inl other) = absurd (one.0 other.0)
pair_one grants pair a b only (inr (inl one)) (inr (inl other)) = one.2 ∙ sym other.2
pair_one grants pair a b only (inr (inl one)) (inr (inr other)) = absurd (limit_apart grants pair b only one.1 other.1)
pair_one grants pair a b only (inr (inr one)) (inl other) = absurd (circle_apart grants pair a only other.0 one.1)
pair_one grants pair a b only (inr (inr one)) (inr (inl other)) = absurd (limit_apart grants pair a only other.1 one.1)
pair_one grants pair a b only (inr (inr one)) (inr (inr other)) = some_one a b (sym one.1 ∙ other.1)

refused_one : (grants : Grants) (all : List Pair) (a b : Code) → AllByRecursion OneWay all → SomeRefused grants all a → SomeRefused grants all b → a ≡ b
refused_one grants [] a b only one other = absurd one
refused_one grants (pair ∷ all) a b only (inl one) (inl other) = pair_one grants pair a b only.0 one other
refused_one grants (pair ∷ all) a b only (inl one) (inr other) = absurd (other.0 a one)
refused_one grants (pair ∷ all) a b only (inr one) (inl other) = absurd (one.0 b other)
refused_one grants (pair ∷ all) a b only (inr one) (inr other) = refused_one (applied_all (made grants pair) grants) all a b only.1 one.1 other.1

refused_passes : (grants : Grants) (all : List Pair) (a : Code) → SomeRefused grants all a → AllPass grants all → ⊥
refused_passes grants [] a one passes = one
refused_passes grants (pair ∷ all) a (inl one) passes = passes.0 a one
refused_passes grants (pair ∷ all) a (inr one) passes = refused_passes (applied_all (made grants pair) grants) all a one.1 passes.1

pairs_code : (grants : Grants) (known : Known) (grantees : List Name) (all : List Pair) (a b : Code) (made other : List GrantChange) → AllByRecursion OneWay all
    → DecidesPairs grants known grantees all a made → DecidesPairs grants known grantees all b other → (a ≡ b) × (made ≡ other)
pairs_code grants known grantees all a b x y only (inl one) (inl other) = (first_one (RefusesGrantee known) (grantee_one known) grantees a b one.0 other.0, one.1 ∙ sym other.1)
pairs_code grants known grantees all a b x y only (inl one) (inr (inl other)) = absurd (none_first (RefusesGrantee known) grantees a other.0 one.0)
pairs_code grants known grantees all a b x y only (inl one) (inr (inr other)) = absurd (none_first (RefusesGrantee known) grantees a other.0 one.0)
pairs_code grants known grantees all a b x y only (inr (inl one)) (inl other) = absurd (none_first (RefusesGrantee known) grantees b one.0 other.0)
pairs_code grants known grantees all a b x y only (inr (inr one)) (inl other) = absurd (none_first (RefusesGrantee known) grantees b one.0 other.0)
pairs_code grants known grantees all a b x y only (inr (inl one)) (inr (inl other)) = (refused_one grants all a b only one.1 other.1, one.2 ∙ sym other.2)
pairs_code grants known grantees all a b x y only (inr (inl one)) (inr (inr other)) = absurd (refused_passes grants all a one.1 other.1)
pairs_code grants known grantees all a b x y only (inr (inr one)) (inr (inl other)) = absurd (refused_passes grants all b other.1 one.1)
pairs_code grants known grantees all a b x y only (inr (inr one)) (inr (inr other)) = (one.2 ∙ sym other.2, one.3 ∙ sym other.3)

-- ---- the pairs of a statement go one way

all_joined : (xs ys : List Pair) → AllByRecursion OneWay xs → AllByRecursion OneWay ys → AllByRecursion OneWay (xs ++ ys)
all_joined [] ys one other = other
all_joined (x ∷ xs) ys one other = (one.0, all_joined xs ys one.1 other)

all_mapped : (make : Name → Pair) → ((grantee : Name) → OneWay (make grantee)) → (grantees : List Name) → AllByRecursion OneWay (map make grantees)
all_mapped make each [] = tt
all_mapped make each (grantee ∷ grantees) = (each grantee, all_mapped make each grantees)

all_pairs : {R : Type 0} (make : R → Name → Pair) → ((right : R) (grantee : Name) → OneWay (make right grantee)) → (rights : List R) (grantees : List Name) → AllByRecursion OneWay (pairs make rights grantees)
all_pairs make each [] grantees = tt
all_pairs make each (right ∷ rights) grantees = all_joined (map (make right) grantees) (pairs make rights grantees) (all_mapped (make right) (each right) grantees) (all_pairs make each rights grantees)

right_way : (w : Way) (right : Right) (grantee : Name) → OneWay (right_pair w right grantee)
unfolding revokes
right_way (way.Grant admin) (SystemRight privilege) grantee = inr refl
right_way (way.Grant admin) (Role role) grantee = inr refl
right_way way.Revoke (SystemRight privilege) grantee = inl refl
right_way way.Revoke (Role role) grantee = inl refl

object_way : (w : Way) (table : TableName) (right : ObjectRight) (grantee : Name) → OneWay (object_pair w table right grantee)
unfolding revokes
object_way (way.Grant admin) table object.Select grantee = inr refl
object_way (way.Grant admin) table object.Insert grantee = inr refl
object_way (way.Grant admin) table object.Update grantee = inr refl
object_way (way.Grant admin) table object.Delete grantee = inr refl
object_way (way.Grant admin) table object.All grantee = inr refl
object_way way.Revoke table object.Select grantee = inl refl
object_way way.Revoke table object.Insert grantee = inl refl
object_way way.Revoke table object.Update grantee = inl refl
object_way way.Revoke table object.Delete grantee = inl refl
object_way way.Revoke table object.All grantee = inl refl

-- ---- statements

decided_of : Code → List Privilege → List GrantChange → Decided
decided_of code used grants = record { code = code; used = used; grants = grants }

same_decided : (a b : Decided) → a.code ≡ b.code → a.used ≡ b.used → a.grants ≡ b.grants → a ≡ b
unfolding decided_of
same_decided a b codes uses grants =
    ap (λ (x : Code). decided_of x a.used a.grants) codes ∙ ap (λ (x : List Privilege). decided_of b.code x a.grants) uses ∙ ap (λ (x : List GrantChange). decided_of b.code b.used x) grants

rights_decided : (grants : Grants) (known : Known) (user : Name) (w : Way) (rights : List Right) (grantees : List Name) (a b : Decided)
    → DecidesRights grants known user w rights grantees a → DecidesRights grants known user w rights grantees b → a ≡ b
rights_decided grants known user w rights grantees a b (inl one) (inl other) =
    same_decided a b (first_one (RefusesRight grants known user) (right_one grants known user) rights a.code b.code one.0 other.0) (one.1 ∙ sym other.1) (one.2 ∙ sym other.2)
rights_decided grants known user w rights grantees a b (inl one) (inr other) = absurd (none_first (RefusesRight grants known user) rights a.code other.0 one.0)
rights_decided grants known user w rights grantees a b (inr one) (inl other) = absurd (none_first (RefusesRight grants known user) rights b.code one.0 other.0)
rights_decided grants known user w rights grantees a b (inr one) (inr other) =
    let both = pairs_code grants known grantees (pairs (right_pair w) rights grantees) a.code b.code a.grants b.grants (all_pairs (right_pair w) (right_way w) rights grantees) one.2 other.2 in
    same_decided a b both.0 (used_one grants user rights a.used b.used one.1 other.1) both.1

table_decided : (grants : Grants) (known : Known) (user : Name) (w : Way) (table : TableName) (rights : List ObjectRight) (grantees : List Name) (a b : Decided)
    → DecidesOnTable grants known user w table rights grantees a → DecidesOnTable grants known user w table rights grantees b → a ≡ b
table_decided grants known user w table rights grantees a b (inl one) (inl other) =
    same_decided a b (table_one grants known user table a.code b.code one.0 other.0) (one.1 ∙ sym other.1) (one.2 ∙ sym other.2)
table_decided grants known user w table rights grantees a b (inl one) (inr other) = absurd (other.0 a.code one.0)
table_decided grants known user w table rights grantees a b (inr one) (inl other) = absurd (one.0 b.code other.0)
table_decided grants known user w table rights grantees a b (inr one) (inr other) =
    let both = pairs_code grants known grantees (pairs (object_pair w table) rights grantees) a.code b.code a.grants b.grants (all_pairs (object_pair w table) (object_way w table) rights grantees) one.2 other.2 in
    same_decided a b both.0 (used_on_one user table a.used b.used one.1 other.1) both.1

pub granted_one : (grants : Grants) (known : Known) (user : Name) (statement : GrantStatement) (a b : Decided) → Decides grants known user statement a → Decides grants known user statement b → a ≡ b
granted_one grants known user (S.Grant rights grantees admin) a b = rights_decided grants known user (way.Grant admin) rights grantees a b
granted_one grants known user (S.Revoke rights grantees) a b = rights_decided grants known user way.Revoke rights grantees a b
granted_one grants known user (S.GrantObject rights table grantees) a b = table_decided grants known user (way.Grant false) (resolved_table user table) rights grantees a b
granted_one grants known user (S.RevokeObject rights table grantees) a b = table_decided grants known user way.Revoke (resolved_table user table) rights grantees a b
