-- Entries that stand in order stand in order after any change.
use Rattle.std.proofs.Common.{◌≡◌, ℕ, Bool, true, false, not, cond, ◌&&◌, inl, inr, List, [], ◌∷◌, ◌++◌, map, get_or, refl, sym, ap, subst, ◌∙◌}
use Rattle.std.specs.List.{Contains, filter, list_all, list_any}
use Rattle.std.specs.declared.cmp.Ordering.{Ordering}
use Rattle.std.specs.declared.cmp.Ordering.TheVariants.{Less, Equal, Greater}
use Rattle.std.specs.Ordering.{is_eq, is_lt, nat_cmp, on, ordering_reverse}
use Rattle.std.specs.Cmp.{IsTotalOrder}
use Rattle.std.specs.Cmp.Lexicographic.{bytes_decides, lists_ties, pointwise_decides, slice_cmp, texts_ties}
use Rattle.std.proofs.lemmas.Bool.{and_parts, and_from}
use Rattle.std.proofs.lemmas.Cmp.{lists_total, nat_cmp_total, on_total}
use Rattle.std.proofs.lemmas.List.Folds.{list_all-append}
use Rattle.au_base.specs.declared.action.Action.{Action}
use Rattle.au_base.specs.declared.privilege.Privilege.{Privilege}
use Rattle.au_base.specs.declared.table.TableName.{TableName}
use Rattle.au_base.specs.Actions as actions
use Rattle.au_base.specs.Privileges as privileges
use Rattle.au_grants.specs.declared.change.GrantChange.{GrantChange}
use Rattle.au_grants.specs.declared.change.GrantChange.TheVariants.{UserGone, RoleGone, SystemGrant, SystemRevoke, RoleGrant, RoleRevoke, ObjectGrant, ObjectRevoke, TableGone}
use Rattle.au_grants.specs.declared.grants.Grants.{Grants}
use Rattle.au_grants.specs.Changing.{applied, with_admin, with_grant, with_object}
use Rattle.au_grants.specs.Holding.{grants_object, grants_privilege, grants_role}
use Rattle.au_grants.specs.Order.{AreInOrder, fields_before, is_in_order, object_before, object_fields, placed, role_before, role_fields, system_before, system_fields}
use Rattle.au_grants.specs.Rights.{Name, ObjectEntry, RoleEntry, SystemEntry}
use Rattle.au_grants.proofs.Entries.{nat_eq-to, same_name-to}
use Rattle.au_grants.proofs.Members.{any_to, here, kept, none, split, there}

-- a test that each element passes
pub all_to : {X : Type 0} (test : X → Bool) (xs : List X) → ((x : X) → Contains xs x → test x ≡ true) → list_all test xs ≡ true
all_to test [] passes = refl
all_to test (y ∷ xs) passes = and_from (test y) (list_all test xs) (passes y (here y xs)) (all_to test xs (λ x has. passes x (there y xs x has)))

pub all_from : {X : Type 0} (test : X → Bool) (xs : List X) → list_all test xs ≡ true → (x : X) → Contains xs x → test x ≡ true
all_from test [] all x has = absurd (none x has)
all_from test (y ∷ xs) all x has =
    let parts = and_parts (test y) (list_all test xs) all in
    elim (split y xs x has) [
      | inl same ↦ ap test (sym same) ∙ parts.0
      | inr later ↦ all_from test xs parts.1 x later
    ]

-- an element of a filtered list passes the test
passes_at : {X : Type 0} (test : X → Bool) (y : X) (rest : List X) (x : X) (b : Bool) → test y ≡ b → (Contains rest x → test x ≡ true) → Contains (cond b (y ∷ rest) rest) x → test x ≡ true
passes_at test y rest x true is more has = elim (split y rest x has) [
  | inl same ↦ ap test (sym same) ∙ is
  | inr later ↦ more later
]
passes_at test y rest x false is more has = more has

pub passes : {X : Type 0} (test : X → Bool) (xs : List X) (x : X) → Contains (filter test xs) x → test x ≡ true
passes test [] x has = absurd (none x has)
passes test (y ∷ xs) x has = passes_at test y (filter test xs) x (test y) refl (passes test xs x) has

-- the joined list stands in order where both do, and all of the first come before all of the second
joined_in_order : {X : Type 0} (before : X → X → Bool) (xs ys : List X) → is_in_order before xs ≡ true → is_in_order before ys ≡ true
    → ((x y : X) → Contains xs x → Contains ys y → before x y ≡ true) → is_in_order before (xs ++ ys) ≡ true
joined_in_order before [] ys one two across = two
joined_in_order before (x ∷ xs) ys one two across =
    let parts = and_parts (list_all (before x) xs) (is_in_order before xs) one in
    and_from _ _
    (list_all-append (before x) xs ys ∙ and_from _ _ parts.0 (all_to (before x) ys (λ y has. across x y (here x xs) has)))
    (joined_in_order before xs ys parts.1 two (λ z y has later. across z y (there x xs z has) later))

-- what a filter keeps stands in order
kept_at : {X : Type 0} (before : X → X → Bool) (test : X → Bool) (x : X) (xs : List X) (b : Bool) → list_all (before x) xs ≡ true → is_in_order before (filter test xs) ≡ true
    → is_in_order before (cond b (x ∷ filter test xs) (filter test xs)) ≡ true
kept_at before test x xs true first more = and_from _ _ (all_to (before x) (filter test xs) (λ y has. all_from (before x) xs first y (kept test xs y has))) more
kept_at before test x xs false first more = more

pub kept_in_order : {X : Type 0} (before : X → X → Bool) (test : X → Bool) (xs : List X) → is_in_order before xs ≡ true → is_in_order before (filter test xs) ≡ true
kept_in_order before test [] ordered = refl
kept_in_order before test (x ∷ xs) ordered =
    let parts = and_parts (list_all (before x) xs) (is_in_order before xs) ordered in
    kept_at before test x xs (test x) parts.0 (kept_in_order before test xs parts.1)

-- a change of the elements that leaves their order leaves the list in order
same_firsts : {X : Type 0} (before : X → X → Bool) (f : X → X) → ((x y : X) → before (f x) (f y) ≡ before x y) → (x : X) (xs : List X) → list_all (before (f x)) (map f xs) ≡ list_all (before x) xs
same_firsts before f same x [] = refl
same_firsts before f same x (y ∷ xs) = λ i. same x y i && same_firsts before f same x xs i

pub same_order : {X : Type 0} (before : X → X → Bool) (f : X → X) → ((x y : X) → before (f x) (f y) ≡ before x y) → (xs : List X) → is_in_order before (map f xs) ≡ is_in_order before xs
same_order before f same [] = refl
same_order before f same (x ∷ xs) = λ i. same_firsts before f same x xs i && same_order before f same xs i

-- the order of entries by their fields
abbrev pub cmp_by : {X : Type 0} → (X → List (List ℕ)) → X → X → Ordering
cmp_by fields = on fields (slice_cmp (slice_cmp nat_cmp))

total_by : {X : Type 0} (fields : X → List (List ℕ)) → IsTotalOrder (cmp_by fields)
total_by fields = on_total fields (lists_total (lists_total nat_cmp_total))

is_less : (o : Ordering) → is_lt o ≡ true → o ≡ Less
is_less Less is = refl
is_less Equal is = absurd (let e : false ≡ true = is in cc)
is_less Greater is = absurd (let e : false ≡ true = is in cc)

abbrev before_by : {X : Type 0} → (X → List (List ℕ)) → X → X → Bool
before_by fields a b = fields_before (fields a) (fields b)

before_joined : {X : Type 0} (fields : X → List (List ℕ)) (a b c : X) → before_by fields a b ≡ true → before_by fields b c ≡ true → before_by fields a c ≡ true
before_joined fields a b c one two = ap is_lt ((total_by fields).trans a b c (is_less _ one) (is_less _ two))

-- of two entries that the order tells apart, one comes before the other
other_way : (o back : Ordering) → is_lt o ≡ false → is_eq o ≡ false → o ≡ ordering_reverse back → is_lt back ≡ true
other_way Less back less equal turned = absurd (let e : true ≡ false = less in cc)
other_way Equal back less equal turned = absurd (let e : true ≡ false = equal in cc)
other_way Greater Less less equal turned = refl
other_way Greater Equal less equal turned = absurd (let e : false ≡ true = ap is_eq turned in cc)
other_way Greater Greater less equal turned = absurd (let e : false ≡ true = ap is_lt turned in cc)

before_back : {X : Type 0} (fields : X → List (List ℕ)) (a b : X) → before_by fields a b ≡ false → is_eq (cmp_by fields a b) ≡ false → before_by fields b a ≡ true
before_back fields a b less equal = other_way _ _ less equal ((total_by fields).antisymm a b)

not_false : (b : Bool) → not b ≡ true → b ≡ false
not_false true is = absurd (let e : false ≡ true = is in cc)
not_false false is = refl

-- a new entry that the order tells from all others leaves them in order
pub placed_in_order : {X : Type 0} (fields : X → List (List ℕ)) (entry : X) (xs : List X) → ((x : X) → Contains xs x → is_eq (cmp_by fields x entry) ≡ false)
    → is_in_order (before_by fields) xs ≡ true → is_in_order (before_by fields) (placed (before_by fields) entry xs) ≡ true
placed_in_order fields entry xs new ordered =
    let before = before_by fields in
    let front = filter (λ other. before other entry) xs in
    let rest = filter (λ other. not (before other entry)) xs in
    let behind : (y : _) → Contains rest y → before entry y ≡ true =
    λ y has. before_back fields y entry (not_false _ (passes (λ other. not (before other entry)) xs y has)) (new y (kept (λ other. not (before other entry)) xs y has)) in
    joined_in_order before front (entry ∷ rest)
    (kept_in_order before (λ other. before other entry) xs ordered)
    (and_from _ _ (all_to (before entry) rest behind) (kept_in_order before (λ other. not (before other entry)) xs ordered))
    (λ x y has later. (let first = passes (λ other. before other entry) xs x has in
    elim (split entry rest y later) [
      | inl same ↦ subst (λ z. before x z ≡ true) same first
      | inr last ↦ before_joined fields x entry y first (behind y last)
    ]))

-- texts that the order doesn't tell apart are the same
pub same_texts : (a b : List ℕ) → is_eq (slice_cmp nat_cmp a b) ≡ true → a ≡ b
same_texts a b is = (bytes_decides a b).0 (texts_ties a b ∙ is)

-- fields that the order doesn't tell apart are the same
same_fields : (a b : List (List ℕ)) → is_eq (slice_cmp (slice_cmp nat_cmp) a b) ≡ true → a ≡ b
same_fields a b is = (pointwise_decides bytes_decides a b).0 (lists_ties (slice_cmp nat_cmp) texts_ties a b ∙ is)

-- the field at the place
field_at : (a b : List (List ℕ)) (place : ℕ) → a ≡ b → get_or a place [] ≡ get_or b place []
field_at a b place same = ap (λ (list : List (List ℕ)). get_or list place []) same

code_at : (a b : List (List ℕ)) (place : ℕ) → a ≡ b → get_or (get_or a place []) 0 0 ≡ get_or (get_or b place []) 0 0
code_at a b place same = ap (λ (list : List (List ℕ)). get_or (get_or list place []) 0 0) same

-- an entry that the order doesn't tell from a grant passes the grant's test
pub system_told : (grantee : Name) (privilege : Privilege) (admin : Bool) (x : SystemEntry) → is_eq (cmp_by system_fields x (grantee, privilege, admin)) ≡ true → grants_privilege grantee privilege x ≡ true
system_told grantee privilege admin x is =
    let same = same_fields (system_fields x) (system_fields (grantee, privilege, admin)) is in
    let grantees : x.0 ≡ grantee = field_at _ _ 0 same in
    let codes : privileges.code_of x.1 ≡ privileges.code_of privilege = code_at _ _ 1 same in
    and_from _ _ (same_name-to _ _ grantees) (nat_eq-to _ _ codes)

pub role_told : (grantee role : Name) (admin : Bool) (x : RoleEntry) → is_eq (cmp_by role_fields x (grantee, role, admin)) ≡ true → grants_role grantee role x ≡ true
role_told grantee role admin x is =
    let same = same_fields (role_fields x) (role_fields (grantee, role, admin)) is in
    let grantees : x.0 ≡ grantee = field_at _ _ 0 same in
    let roles : x.1 ≡ role = field_at _ _ 1 same in
    and_from _ _ (same_name-to _ _ grantees) (same_name-to _ _ roles)

pub object_told : (grantee : Name) (table : TableName) (action : Action) (x : ObjectEntry) → is_eq (cmp_by object_fields x (grantee, table, action)) ≡ true → grants_object grantee table action x ≡ true
object_told grantee table action x is =
    let same = same_fields (object_fields x) (object_fields (grantee, table, action)) is in
    let grantees : x.0 ≡ grantee = field_at _ _ 0 same in
    let owners : x.1.owner ≡ table.owner = field_at _ _ 1 same in
    let names : x.1.name ≡ table.name = field_at _ _ 2 same in
    let codes : actions.code_of x.2 ≡ actions.code_of action = code_at _ _ 3 same in
    and_from _ _
    (and_from _ _ (same_name-to _ _ grantees) (and_from _ _ (same_name-to _ _ owners) (same_name-to _ _ names)))
    (nat_eq-to _ _ codes)

-- an entry that fails the grant's test is told from the grant
pub told_apart : {X : Type 0} (fields : X → List (List ℕ)) (test : X → Bool) (entry : X) (xs : List X) → ((x : X) → is_eq (cmp_by fields x entry) ≡ true → test x ≡ true)
    → list_any test xs ≡ false → (x : X) → Contains xs x → is_eq (cmp_by fields x entry) ≡ false
told_apart fields test entry xs told none_is x has = at (is_eq (cmp_by fields x entry)) refl
  where
    at : (b : Bool) → is_eq (cmp_by fields x entry) ≡ b → b ≡ false
    at true is = absurd (let found : true ≡ false = sym (any_to test xs x has (told x is)) ∙ none_is in cc)
    at false is = refl

-- the admin option isn't a field that orders
pub admin_same : {X Y : Type 0} (fields : X × Y × Bool → List (List ℕ)) → ((x : X × Y × Bool) (a : Bool) → fields (x.0, x.1, a) ≡ fields x)
    → (test : X × Y × Bool → Bool) (admin : Bool) (x : X × Y × Bool) → fields (with_admin test admin x) ≡ fields x
admin_same fields apart test admin x = at (test x)
  where
    at : (b : Bool) → fields (cond b (x.0, x.1, admin) x) ≡ fields x
    at true = apart x admin
    at false = refl

-- entries in order stand in order with the grant
granted_in_order : {X Y : Type 0} (fields : X × Y × Bool → List (List ℕ)) (test : X × Y × Bool → Bool) (entry : X × Y × Bool) (xs : List (X × Y × Bool))
    → ((x : X × Y × Bool) (a : Bool) → fields (x.0, x.1, a) ≡ fields x) → ((x : X × Y × Bool) → is_eq (cmp_by fields x entry) ≡ true → test x ≡ true)
    → is_in_order (before_by fields) xs ≡ true → is_in_order (before_by fields) (with_grant (before_by fields) test entry xs) ≡ true
granted_in_order fields test entry xs apart told ordered = at (list_any test xs) refl
  where
    at : (b : Bool) → list_any test xs ≡ b → is_in_order (before_by fields) (cond b (map (with_admin test entry.2) xs) (placed (before_by fields) entry xs)) ≡ true
    at true is =
        same_order (before_by fields) (with_admin test entry.2) (λ x y i. fields_before (admin_same fields apart test entry.2 x i) (admin_same fields apart test entry.2 y i)) xs ∙ ordered
    at false is = placed_in_order fields entry xs (told_apart fields test entry xs told is) ordered

object_in_order : (entry : ObjectEntry) (xs : List ObjectEntry) → is_in_order object_before xs ≡ true → is_in_order object_before (with_object entry xs) ≡ true
object_in_order entry xs ordered = at (list_any (grants_object entry.0 entry.1 entry.2) xs) refl
  where
    at : (b : Bool) → list_any (grants_object entry.0 entry.1 entry.2) xs ≡ b → is_in_order object_before (cond b xs (placed object_before entry xs)) ≡ true
    at true is = ordered
    at false is = placed_in_order object_fields entry xs (told_apart object_fields (grants_object entry.0 entry.1 entry.2) entry xs (object_told entry.0 entry.1 entry.2) is) ordered

-- grants that stand in order stand in order after the change
pub applied_in_order : (grants : Grants) (change : GrantChange) → AreInOrder grants → AreInOrder (applied change grants)
applied_in_order grants (UserGone user) (system, role, object) =
    (kept_in_order system_before _ grants.system system, kept_in_order role_before _ grants.role role, kept_in_order object_before _ grants.object object)
applied_in_order grants (RoleGone name) (system, role, object) =
    (kept_in_order system_before _ grants.system system, kept_in_order role_before _ grants.role role, kept_in_order object_before _ grants.object object)
applied_in_order grants (SystemGrant grantee privilege admin) (system, role, object) =
    (granted_in_order system_fields (grants_privilege grantee privilege) (grantee, privilege, admin) grants.system (λ x a. refl) (system_told grantee privilege admin) system, role, object)
applied_in_order grants (SystemRevoke grantee privilege) (system, role, object) = (kept_in_order system_before _ grants.system system, role, object)
applied_in_order grants (RoleGrant grantee name admin) (system, role, object) =
    (system, granted_in_order role_fields (grants_role grantee name) (grantee, name, admin) grants.role (λ x a. refl) (role_told grantee name admin) role, object)
applied_in_order grants (RoleRevoke grantee name) (system, role, object) = (system, kept_in_order role_before _ grants.role role, object)
applied_in_order grants (ObjectGrant grantee table action) (system, role, object) = (system, role, object_in_order (grantee, table, action) grants.object object)
applied_in_order grants (ObjectRevoke grantee table action) (system, role, object) = (system, role, kept_in_order object_before _ grants.object object)
applied_in_order grants (TableGone table) (system, role, object) = (system, role, kept_in_order object_before _ grants.object object)
