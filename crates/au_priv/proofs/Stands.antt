-- What is granted directly after a change.
use Rattle.std.proofs.Common.{◌≡◌, ◌==◌, ℕ, ◌+◌, ◌<◌, Bool, true, false, not, cond, ◌&&◌, ◌||◌, List, [], ◌∷◌, ◌++◌, get_or, length, map, take, refl, sym, ap, ◌∙◌, arith}
use Rattle.std.specs.List.{filter, list_any}
use Rattle.std.specs.Str.{bytes_eq}
use Rattle.std.proofs.lemmas.Bool.{and_parts, and_from}
use Rattle.std.proofs.lemmas.Bool.Decides.{nat_tests}
use Rattle.std.proofs.lemmas.List.{take_more}
use Rattle.au_base.specs.declared.action.Action.{Action}
use Rattle.au_base.specs.declared.privilege.Privilege.{Privilege}
use Rattle.au_base.specs.declared.table.TableName.{TableName}
use Rattle.au_base.specs.Actions as actions
use Rattle.au_base.specs.Privileges as privileges
use Rattle.au_grants.specs.declared.change.GrantChange.{GrantChange}
use Rattle.au_grants.specs.declared.change.GrantChange.TheVariants.{UserGone, RoleGone, SystemGrant, SystemRevoke, RoleGrant, RoleRevoke, ObjectGrant, ObjectRevoke, TableGone}
use Rattle.au_grants.specs.Changing.{applied, applied_all, names_role, names_table, object_to, role_to, system_to, with_admin, with_grant, without}
use Rattle.au_grants.specs.Holding.{grants_object, grants_privilege, grants_privilege_as, grants_role, grants_role_as, same_action, same_privilege, same_table}
use Rattle.au_grants.specs.Order.{object_before, placed, role_before, system_before}
use Rattle.au_grants.specs.Rights.{Grants, Name, ObjectEntry, RoleEntry, SystemEntry}
use Rattle.au_priv.specs.descent.Standing.{object_after, privilege_after, role_after}
use Rattle.au_priv.proofs.Tables.{same_name-is, same_name-refl, same_name-to, same_table-is}
use Rattle.au_priv.proofs.Walks.{applied_joined}

-- truths
same_truth : (a b : Bool) → (a ≡ true → b ≡ true) → (b ≡ true → a ≡ true) → a ≡ b
same_truth true true to from = refl
same_truth true false to from = sym (to refl)
same_truth false true to from = from refl
same_truth false false to from = refl

both_same : (a b c d : Bool) → a ≡ c → b ≡ d → (a && b) ≡ (c && d)
both_same a b c d one two = ap (λ (t : Bool). t && b) one ∙ ap (λ (t : Bool). c && t) two

swapped : (a b c : Bool) → (a || (b || c)) ≡ (b || (a || c))
swapped true true c = refl
swapped true false c = refl
swapped false b c = refl

or_neither : (a b : Bool) → (a ≡ true → false ≡ true) → b ≡ false → (a || b) ≡ false
or_neither true b never is = sym (never refl)
or_neither false b never is = is

or_second : (a b c : Bool) → (a ≡ true → true ≡ false) → b ≡ c → b ≡ (a || c)
or_second true b c never is = absurd (let e : true ≡ false = never refl in cc)
or_second false b c never is = is

or_rest : (a b : Bool) → (a ≡ true → false ≡ true) → (a || b) ≡ b
or_rest true b never = absurd (let e : false ≡ true = never refl in cc)
or_rest false b never = refl

or_known : (a b : Bool) → (a ≡ true → b ≡ true) → b ≡ (a || b)
or_known true b known = known refl
or_known false b known = refl

or_true : (b : Bool) → (b || true) ≡ true
or_true true = refl
or_true false = refl

or_false : (b : Bool) → (b || false) ≡ b
or_false true = refl
or_false false = refl

and_true : (b : Bool) → (b && true) ≡ b
and_true true = refl
and_true false = refl

absorbed : (v c rest : Bool) → rest ≡ (c && v) → (v || rest) ≡ v
absorbed true c rest is = refl
absorbed false true rest is = is
absorbed false false rest is = is

nat_eq-is : (m n : ℕ) → (m == n) ≡ true → m ≡ n
nat_eq-is m n is = grind (arith, nat_tests)

nat_eq-to : (m n : ℕ) → m ≡ n → (m == n) ≡ true
nat_eq-to m n same = grind (arith, nat_tests)

nat_eq-sym : (m n : ℕ) → (m == n) ≡ (n == m)
nat_eq-sym m n = same_truth (m == n) (n == m) (λ is. nat_eq-to n m (sym (nat_eq-is m n is))) (λ is. nat_eq-to m n (sym (nat_eq-is n m is)))

-- whether an entry of some kind is left where others are taken away
less_at : {X : Type 0} (P : X → Bool) (x : X) (rest : List X) (t : Bool) → (P x ≡ true → t ≡ true) → list_any P rest ≡ false → list_any P (cond (not t) (x ∷ rest) rest) ≡ false
less_at P x rest true all none = none
less_at P x rest false all none = or_neither (P x) (list_any P rest) all none

left_at : {X : Type 0} (P : X → Bool) (x : X) (rest xs : List X) (t : Bool) → (P x ≡ true → t ≡ false) → list_any P rest ≡ list_any P xs
    → list_any P (cond (not t) (x ∷ rest) rest) ≡ (P x || list_any P xs)
left_at P x rest xs true none same = or_second (P x) (list_any P rest) (list_any P xs) none same
left_at P x rest xs false none same = ap (λ (b : Bool). P x || b) same

without_is : {X : Type 0} (P T : X → Bool) (named : Bool) (xs : List X) → ((x : X) → P x ≡ true → T x ≡ named) → list_any P (without T xs) ≡ (not named && list_any P xs)
without_is P T true [] same = refl
without_is P T true (x ∷ xs) same = less_at P x (without T xs) (T x) (same x) (without_is P T true xs same)
without_is P T false [] same = refl
without_is P T false (x ∷ xs) same = left_at P x (without T xs) xs (T x) (same x) (without_is P T false xs same)

-- whether one is there where an entry is put to its place
behind_one : {X : Type 0} (P : X → Bool) (front : List X) (entry x : X) (back : List X) → list_any P (front ++ entry ∷ x ∷ back) ≡ (P x || list_any P (front ++ entry ∷ back))
behind_one P [] entry x back = swapped (P entry) (P x) (list_any P back)
behind_one P (first ∷ front) entry x back = ap (λ (b : Bool). P first || b) (behind_one P front entry x back) ∙ swapped (P first) (P x) (list_any P (front ++ entry ∷ back))

placed_at : {X : Type 0} (P : X → Bool) (entry x : X) (front back : List X) (rest b : Bool) → list_any P (front ++ entry ∷ back) ≡ (P entry || rest)
    → list_any P (cond b (x ∷ front) front ++ entry ∷ cond (not b) (x ∷ back) back) ≡ (P entry || (P x || rest))
placed_at P entry x front back rest true is = ap (λ (b : Bool). P x || b) is ∙ swapped (P x) (P entry) rest
placed_at P entry x front back rest false is = behind_one P front entry x back ∙ (ap (λ (b : Bool). P x || b) is ∙ swapped (P x) (P entry) rest)

placed_is : {X : Type 0} (before : X → X → Bool) (P : X → Bool) (entry : X) (xs : List X) → list_any P (placed before entry xs) ≡ (P entry || list_any P xs)
placed_is before P entry [] = refl
placed_is before P entry (x ∷ xs) = placed_at P entry x (filter (λ other. before other entry) xs) (filter (λ other. not (before other entry)) xs) (list_any P xs) (before x entry) (placed_is before P entry xs)

-- whether one is there where some get the admin option
fewer_at : (p t more rest : Bool) → (p ≡ true → t ≡ true) → (t || more) ≡ false → (more ≡ false → rest ≡ false) → (p || rest) ≡ false
fewer_at p true more rest within none on = absurd (let e : true ≡ false = none in cc)
fewer_at p false more rest within none on = or_neither p rest within (on none)

fewer : {X : Type 0} (P T : X → Bool) (xs : List X) → ((x : X) → P x ≡ true → T x ≡ true) → list_any T xs ≡ false → list_any P xs ≡ false
fewer P T [] within none = refl
fewer P T (x ∷ xs) within none = fewer_at (P x) (T x) (list_any T xs) (list_any P xs) (within x) none (fewer P T xs within)

named_at : {X Y : Type 0} (P : X × Y × Bool → Bool) (x : X × Y × Bool) (admin value t rest more : Bool) → (P x ≡ true → t ≡ true) → (t ≡ true → P (x.0, x.1, admin) ≡ value)
    → rest ≡ (more && value) → (P (cond t (x.0, x.1, admin) x) || rest) ≡ ((t || more) && value)
named_at P x admin value true rest more within is on = ap (λ (b : Bool). b || rest) (is refl) ∙ absorbed value more rest on
named_at P x admin value false rest more within is on = or_rest (P x) rest within ∙ on

all_named : {X Y : Type 0} (P T : X × Y × Bool → Bool) (admin value : Bool) (xs : List (X × Y × Bool)) → ((x : X × Y × Bool) → P x ≡ true → T x ≡ true)
    → ((x : X × Y × Bool) → T x ≡ true → P (x.0, x.1, admin) ≡ value) → list_any P (map (with_admin T admin) xs) ≡ (list_any T xs && value)
all_named P T admin value [] within is = refl
all_named P T admin value (x ∷ xs) within is =
    named_at P x admin value (T x) (list_any P (map (with_admin T admin) xs)) (list_any T xs) (within x) (is x) (all_named P T admin value xs within is)

other_at : {X Y : Type 0} (P : X × Y × Bool → Bool) (x : X × Y × Bool) (admin t : Bool) → (P x ≡ true → t ≡ false) → (t ≡ true → P (x.0, x.1, admin) ≡ false) → P (cond t (x.0, x.1, admin) x) ≡ P x
other_at P x admin true apart is = is refl ∙ same_truth false (P x) (λ never. absurd (let e : false ≡ true = never in cc)) (λ passes. sym (apart passes))
other_at P x admin false apart is = refl

none_named : {X Y : Type 0} (P T : X × Y × Bool → Bool) (admin : Bool) (xs : List (X × Y × Bool)) → ((x : X × Y × Bool) → P x ≡ true → T x ≡ false)
    → ((x : X × Y × Bool) → T x ≡ true → P (x.0, x.1, admin) ≡ false) → list_any P (map (with_admin T admin) xs) ≡ list_any P xs
none_named P T admin [] apart is = refl
none_named P T admin (x ∷ xs) apart is =
    ap (λ (b : Bool). b || list_any P (map (with_admin T admin) xs)) (other_at P x admin (T x) (apart x) (is x))
    ∙ ap (λ (b : Bool). P x || b) (none_named P T admin xs apart is)

-- whether one is there after a grant
grant_at : {X Y : Type 0} (before : X × Y × Bool → X × Y × Bool → Bool) (P T : X × Y × Bool → Bool) (to : X) (granted : Y) (admin named value there : Bool) (xs : List (X × Y × Bool))
    → ((x : X × Y × Bool) → P x ≡ true → T x ≡ named) → ((x : X × Y × Bool) → T x ≡ true → P (x.0, x.1, admin) ≡ (named && value)) → T (to, granted, admin) ≡ true → list_any T xs ≡ there
    → list_any P (cond there (map (with_admin T admin) xs) (placed before (to, granted, admin) xs)) ≡ cond named value (list_any P xs)
grant_at before P T to granted admin true value true xs same is itself has = all_named P T admin value xs same is ∙ ap (λ (b : Bool). b && value) has
grant_at before P T to granted admin true value false xs same is itself has =
    placed_is before P (to, granted, admin) xs
    ∙ (ap (λ (b : Bool). b || list_any P xs) (is (to, granted, admin) itself)
    ∙ (ap (λ (b : Bool). value || b) (fewer P T xs same has)
    ∙ or_false value))
grant_at before P T to granted admin false value true xs same is itself has = none_named P T admin xs same is
grant_at before P T to granted admin false value false xs same is itself has =
    placed_is before P (to, granted, admin) xs ∙ ap (λ (b : Bool). b || list_any P xs) (is (to, granted, admin) itself)

grant_is : {X Y : Type 0} (before : X × Y × Bool → X × Y × Bool → Bool) (P T : X × Y × Bool → Bool) (to : X) (granted : Y) (admin named value : Bool) (xs : List (X × Y × Bool))
    → ((x : X × Y × Bool) → P x ≡ true → T x ≡ named) → ((x : X × Y × Bool) → T x ≡ true → P (x.0, x.1, admin) ≡ (named && value)) → T (to, granted, admin) ≡ true
    → list_any P (with_grant before T (to, granted, admin) xs) ≡ cond named value (list_any P xs)
grant_is before P T to granted admin named value xs same is itself = grant_at before P T to granted admin named value (list_any T xs) xs same is itself refl

-- names, privileges and actions that are the same are so to others
name_key : (a b other : Name) → bytes_eq a b ≡ true → bytes_eq a other ≡ bytes_eq b other
name_key a b other is = ap (λ (n : Name). bytes_eq n other) (same_name-is a b is)

name_sym : (a b : Name) → bytes_eq a b ≡ bytes_eq b a
name_sym a b = same_truth (bytes_eq a b) (bytes_eq b a) (λ is. same_name-to b a (sym (same_name-is a b is))) (λ is. same_name-to a b (sym (same_name-is b a is)))

privilege_key : (a b other : Privilege) → same_privilege a b ≡ true → same_privilege a other ≡ same_privilege b other
privilege_key a b other is = ap (λ (code : ℕ). code == privileges.code_of other) (nat_eq-is (privileges.code_of a) (privileges.code_of b) is)

privilege_sym : (a b : Privilege) → same_privilege a b ≡ same_privilege b a
privilege_sym a b = nat_eq-sym (privileges.code_of a) (privileges.code_of b)

action_key : (a b other : Action) → same_action a b ≡ true → same_action a other ≡ same_action b other
action_key a b other is = ap (λ (code : ℕ). code == actions.code_of other) (nat_eq-is (actions.code_of a) (actions.code_of b) is)

action_sym : (a b : Action) → same_action a b ≡ same_action b a
action_sym a b = nat_eq-sym (actions.code_of a) (actions.code_of b)

table_key : (a b other : TableName) → same_table a b ≡ true → same_table a other ≡ same_table b other
table_key a b other is = ap (λ (t : TableName). same_table t other) (same_table-is a b is)

table_sym : (a b : TableName) → same_table a b ≡ same_table b a
table_sym a b = both_same (bytes_eq a.owner b.owner) (bytes_eq a.name b.name) (bytes_eq b.owner a.owner) (bytes_eq b.name a.name) (name_sym a.owner b.owner) (name_sym a.name b.name)

-- system privileges
system_parts : (grantee : Name) (privilege : Privilege) (admin : Bool) (x : SystemEntry) → grants_privilege_as grantee privilege admin x ≡ true → (bytes_eq x.0 grantee ≡ true) × (same_privilege x.1 privilege ≡ true)
system_parts grantee privilege admin x is = and_parts (bytes_eq x.0 grantee) (same_privilege x.1 privilege) (and_parts (grants_privilege grantee privilege x) (x.2 || not admin) is).0

system_same : (grantee : Name) (privilege : Privilege) (admin : Bool) (to : Name) (granted : Privilege) (x : SystemEntry)
    → grants_privilege_as grantee privilege admin x ≡ true → grants_privilege to granted x ≡ grants_privilege to granted (grantee, privilege, false)
system_same grantee privilege admin to granted x is =
    let parts = system_parts grantee privilege admin x is in
    both_same _ _ _ _ (name_key x.0 grantee to parts.0) (privilege_key x.1 privilege granted parts.1)

system_named : (grantee : Name) (privilege : Privilege) (admin : Bool) (to : Name) (granted : Privilege) (option : Bool) (x : SystemEntry)
    → grants_privilege to granted x ≡ true → grants_privilege_as grantee privilege admin (x.0, x.1, option) ≡ (grants_privilege to granted (grantee, privilege, false) && (option || not admin))
system_named grantee privilege admin to granted option x is =
    let parts = and_parts (bytes_eq x.0 to) (same_privilege x.1 granted) is in
    both_same _ _ _ _ (both_same _ _ _ _ (name_key x.0 to grantee parts.0 ∙ name_sym to grantee) (privilege_key x.1 granted privilege parts.1 ∙ privilege_sym granted privilege)) refl

system_to_is : (grantee : Name) (privilege : Privilege) (admin : Bool) (name : Name) (entries : List SystemEntry)
    → list_any (grants_privilege_as grantee privilege admin) (without (system_to name) entries) ≡ (not (bytes_eq grantee name) && list_any (grants_privilege_as grantee privilege admin) entries)
system_to_is grantee privilege admin name entries =
    without_is (grants_privilege_as grantee privilege admin) (system_to name) (bytes_eq grantee name) entries (λ x is. name_key x.0 grantee name (system_parts grantee privilege admin x is).0)

privilege_stands : (grants : Grants) (grantee : Name) (privilege : Privilege) (admin : Bool) (change : GrantChange)
    → list_any (grants_privilege_as grantee privilege admin) (applied change grants).system ≡ privilege_after grantee privilege admin change (list_any (grants_privilege_as grantee privilege admin) grants.system)
privilege_stands grants grantee privilege admin (UserGone user) = system_to_is grantee privilege admin user grants.system
privilege_stands grants grantee privilege admin (RoleGone role) = system_to_is grantee privilege admin role grants.system
privilege_stands grants grantee privilege admin (SystemGrant to granted option) =
    grant_is system_before (grants_privilege_as grantee privilege admin) (grants_privilege to granted) to granted option (grants_privilege to granted (grantee, privilege, false)) (option || not admin) grants.system
    (system_same grantee privilege admin to granted) (system_named grantee privilege admin to granted option)
    (and_from (bytes_eq to to) (same_privilege granted granted) (same_name-refl to) (nat_eq-to (privileges.code_of granted) (privileges.code_of granted) refl))
privilege_stands grants grantee privilege admin (SystemRevoke from revoked) =
    without_is (grants_privilege_as grantee privilege admin) (grants_privilege from revoked) (grants_privilege from revoked (grantee, privilege, false)) grants.system
    (system_same grantee privilege admin from revoked)
privilege_stands grants grantee privilege admin (RoleGrant to granted option) = refl
privilege_stands grants grantee privilege admin (RoleRevoke from revoked) = refl
privilege_stands grants grantee privilege admin (ObjectGrant to on which) = refl
privilege_stands grants grantee privilege admin (ObjectRevoke from on which) = refl
privilege_stands grants grantee privilege admin (TableGone gone) = refl

-- roles
role_parts : (grantee role : Name) (admin : Bool) (x : RoleEntry) → grants_role_as grantee role admin x ≡ true → (bytes_eq x.0 grantee ≡ true) × (bytes_eq x.1 role ≡ true)
role_parts grantee role admin x is = and_parts (bytes_eq x.0 grantee) (bytes_eq x.1 role) (and_parts (grants_role grantee role x) (x.2 || not admin) is).0

role_same : (grantee role : Name) (admin : Bool) (to granted : Name) (x : RoleEntry) → grants_role_as grantee role admin x ≡ true → grants_role to granted x ≡ grants_role to granted (grantee, role, false)
role_same grantee role admin to granted x is =
    let parts = role_parts grantee role admin x is in
    both_same _ _ _ _ (name_key x.0 grantee to parts.0) (name_key x.1 role granted parts.1)

role_named : (grantee role : Name) (admin : Bool) (to granted : Name) (option : Bool) (x : RoleEntry)
    → grants_role to granted x ≡ true → grants_role_as grantee role admin (x.0, x.1, option) ≡ (grants_role to granted (grantee, role, false) && (option || not admin))
role_named grantee role admin to granted option x is =
    let parts = and_parts (bytes_eq x.0 to) (bytes_eq x.1 granted) is in
    both_same _ _ _ _ (both_same _ _ _ _ (name_key x.0 to grantee parts.0 ∙ name_sym to grantee) (name_key x.1 granted role parts.1 ∙ name_sym granted role)) refl

role_gone : (grantee role : Name) (admin : Bool) (gone : Name) (x : RoleEntry) → grants_role_as grantee role admin x ≡ true → names_role gone x ≡ (bytes_eq grantee gone || bytes_eq role gone)
role_gone grantee role admin gone x is =
    let parts = role_parts grantee role admin x is in
    ap (λ (b : Bool). b || bytes_eq x.1 gone) (name_key x.0 grantee gone parts.0) ∙ ap (λ (b : Bool). bytes_eq grantee gone || b) (name_key x.1 role gone parts.1)

pub role_stands : (grants : Grants) (grantee role : Name) (admin : Bool) (change : GrantChange)
    → list_any (grants_role_as grantee role admin) (applied change grants).role ≡ role_after grantee role admin change (list_any (grants_role_as grantee role admin) grants.role)
role_stands grants grantee role admin (UserGone user) =
    without_is (grants_role_as grantee role admin) (role_to user) (bytes_eq grantee user) grants.role (λ x is. name_key x.0 grantee user (role_parts grantee role admin x is).0)
role_stands grants grantee role admin (RoleGone gone) =
    without_is (grants_role_as grantee role admin) (names_role gone) (bytes_eq grantee gone || bytes_eq role gone) grants.role (role_gone grantee role admin gone)
role_stands grants grantee role admin (RoleGrant to granted option) =
    grant_is role_before (grants_role_as grantee role admin) (grants_role to granted) to granted option (grants_role to granted (grantee, role, false)) (option || not admin) grants.role
    (role_same grantee role admin to granted) (role_named grantee role admin to granted option) (and_from (bytes_eq to to) (bytes_eq granted granted) (same_name-refl to) (same_name-refl granted))
role_stands grants grantee role admin (RoleRevoke from revoked) =
    without_is (grants_role_as grantee role admin) (grants_role from revoked) (grants_role from revoked (grantee, role, false)) grants.role (role_same grantee role admin from revoked)
role_stands grants grantee role admin (SystemGrant to granted option) = refl
role_stands grants grantee role admin (SystemRevoke from revoked) = refl
role_stands grants grantee role admin (ObjectGrant to on which) = refl
role_stands grants grantee role admin (ObjectRevoke from on which) = refl
role_stands grants grantee role admin (TableGone gone) = refl

-- object privileges
object_parts : (grantee : Name) (table : TableName) (action : Action) (x : ObjectEntry) → grants_object grantee table action x ≡ true → (bytes_eq x.0 grantee ≡ true) × (same_table x.1 table ≡ true) × (same_action x.2 action ≡ true)
object_parts grantee table action x is =
    let parts = and_parts (bytes_eq x.0 grantee && same_table x.1 table) (same_action x.2 action) is in
    let front = and_parts (bytes_eq x.0 grantee) (same_table x.1 table) parts.0 in
    (front.0, front.1, parts.1)

object_same : (grantee : Name) (table : TableName) (action : Action) (to : Name) (on : TableName) (granted : Action) (x : ObjectEntry)
    → grants_object grantee table action x ≡ true → grants_object to on granted x ≡ grants_object to on granted (grantee, table, action)
object_same grantee table action to on granted x is =
    let parts = object_parts grantee table action x is in
    both_same _ _ _ _ (both_same _ _ _ _ (name_key x.0 grantee to parts.0) (table_key x.1 table on parts.1)) (action_key x.2 action granted parts.2)

object_sym : (grantee : Name) (table : TableName) (action : Action) (to : Name) (on : TableName) (granted : Action) → grants_object grantee table action (to, on, granted) ≡ grants_object to on granted (grantee, table, action)
object_sym grantee table action to on granted = both_same _ _ _ _ (both_same _ _ _ _ (name_sym to grantee) (table_sym on table)) (action_sym granted action)

covered_at : (t p more rest : Bool) → (t ≡ true → p ≡ true) → (more ≡ true → rest ≡ true) → (t || more) ≡ true → (p || rest) ≡ true
covered_at true p more rest within on is = ap (λ (b : Bool). b || rest) (within refl)
covered_at false p more rest within on is = ap (λ (b : Bool). p || b) (on is) ∙ or_true p

covered : {X : Type 0} (T P : X → Bool) (xs : List X) → ((x : X) → T x ≡ true → P x ≡ true) → list_any T xs ≡ true → list_any P xs ≡ true
covered T P [] within is = is
covered T P (x ∷ xs) within is = covered_at (T x) (P x) (list_any T xs) (list_any P xs) (within x) (covered T P xs within) is

-- the object privilege is there where one that is named the same is
object_known : (grantee : Name) (table : TableName) (action : Action) (to : Name) (on : TableName) (granted : Action) (entries : List ObjectEntry) → grants_object to on granted (grantee, table, action) ≡ true
    → list_any (grants_object to on granted) entries ≡ true → list_any (grants_object grantee table action) entries ≡ true
object_known grantee table action to on granted entries named there =
    covered (grants_object to on granted) (grants_object grantee table action) entries
    (λ x is. object_same to on granted grantee table action x is ∙ (object_sym grantee table action to on granted ∙ named)) there

object_at : (grantee : Name) (table : TableName) (action : Action) (to : Name) (on : TableName) (granted : Action) (entries : List ObjectEntry) (there : Bool) → list_any (grants_object to on granted) entries ≡ there
    → list_any (grants_object grantee table action) (cond there entries (placed object_before (to, on, granted) entries)) ≡ (grants_object to on granted (grantee, table, action) || list_any (grants_object grantee table action) entries)
object_at grantee table action to on granted entries true is =
    or_known (grants_object to on granted (grantee, table, action)) (list_any (grants_object grantee table action) entries) (λ named. object_known grantee table action to on granted entries named is)
object_at grantee table action to on granted entries false is =
    placed_is object_before (grants_object grantee table action) (to, on, granted) entries
    ∙ ap (λ (b : Bool). b || list_any (grants_object grantee table action) entries) (object_sym grantee table action to on granted)

object_to_is : (grantee : Name) (table : TableName) (action : Action) (name : Name) (entries : List ObjectEntry)
    → list_any (grants_object grantee table action) (without (object_to name) entries) ≡ (not (bytes_eq grantee name) && list_any (grants_object grantee table action) entries)
object_to_is grantee table action name entries =
    without_is (grants_object grantee table action) (object_to name) (bytes_eq grantee name) entries (λ x is. name_key x.0 grantee name (object_parts grantee table action x is).0)

object_stands : (grants : Grants) (grantee : Name) (table : TableName) (action : Action) (change : GrantChange)
    → list_any (grants_object grantee table action) (applied change grants).object ≡ object_after grantee table action change (list_any (grants_object grantee table action) grants.object)
object_stands grants grantee table action (UserGone user) = object_to_is grantee table action user grants.object
object_stands grants grantee table action (RoleGone role) = object_to_is grantee table action role grants.object
object_stands grants grantee table action (ObjectGrant to on granted) = object_at grantee table action to on granted grants.object (list_any (grants_object to on granted) grants.object) refl
object_stands grants grantee table action (ObjectRevoke from on revoked) =
    without_is (grants_object grantee table action) (grants_object from on revoked) (grants_object from on revoked (grantee, table, action)) grants.object (object_same grantee table action from on revoked)
object_stands grants grantee table action (TableGone gone) =
    without_is (grants_object grantee table action) (names_table gone) (same_table table gone) grants.object (λ x is. table_key x.1 table gone (object_parts grantee table action x is).1)
object_stands grants grantee table action (SystemGrant to granted option) = refl
object_stands grants grantee table action (SystemRevoke from revoked) = refl
object_stands grants grantee table action (RoleGrant to granted option) = refl
object_stands grants grantee table action (RoleRevoke from revoked) = refl

-- without admin option
pub any_role_as : (grantee role : Name) (entries : List RoleEntry) → list_any (grants_role_as grantee role false) entries ≡ list_any (grants_role grantee role) entries
any_role_as grantee role [] = refl
any_role_as grantee role (x ∷ xs) =
    ap (λ (b : Bool). b || list_any (grants_role_as grantee role false) xs) (ap (λ (b : Bool). grants_role grantee role x && b) (or_true x.2) ∙ and_true (grants_role grantee role x))
    ∙ ap (λ (b : Bool). grants_role grantee role x || b) (any_role_as grantee role xs)

pub any_privilege_as : (grantee : Name) (privilege : Privilege) (entries : List SystemEntry) → list_any (grants_privilege_as grantee privilege false) entries ≡ list_any (grants_privilege grantee privilege) entries
any_privilege_as grantee privilege [] = refl
any_privilege_as grantee privilege (x ∷ xs) =
    ap (λ (b : Bool). b || list_any (grants_privilege_as grantee privilege false) xs) (ap (λ (b : Bool). grants_privilege grantee privilege x && b) (or_true x.2) ∙ and_true (grants_privilege grantee privilege x))
    ∙ ap (λ (b : Bool). grants_privilege grantee privilege x || b) (any_privilege_as grantee privilege xs)

-- one change more
one_more : (changes : List GrantChange) (i : ℕ) (change : GrantChange) (grants : Grants) → i < length changes → change ≡ get_or changes i change
    → applied_all (take (i + 1) changes) grants ≡ applied change (applied_all (take i changes) grants)
one_more changes i change grants within is =
    ap (λ (list : List GrantChange). applied_all list grants) (take_more changes i change within)
    ∙ (applied_joined (take i changes) (get_or changes i change ∷ []) grants
    ∙ ap (λ (c : GrantChange). applied c (applied_all (take i changes) grants)) (sym is))

pub privilege_more : (changes : List GrantChange) (i : ℕ) (change : GrantChange) (grants : Grants) (grantee : Name) (privilege : Privilege) (admin before after : Bool) → i < length changes → change ≡ get_or changes i change
    → before ≡ list_any (grants_privilege_as grantee privilege admin) (applied_all (take i changes) grants).system → after ≡ privilege_after grantee privilege admin change before
    → after ≡ list_any (grants_privilege_as grantee privilege admin) (applied_all (take (i + 1) changes) grants).system
privilege_more changes i change grants grantee privilege admin before after within is was becomes =
    becomes ∙ (ap (privilege_after grantee privilege admin change) was
    ∙ (sym (privilege_stands (applied_all (take i changes) grants) grantee privilege admin change)
    ∙ ap (λ (g : Grants). list_any (grants_privilege_as grantee privilege admin) g.system) (sym (one_more changes i change grants within is))))

pub role_more : (changes : List GrantChange) (i : ℕ) (change : GrantChange) (grants : Grants) (grantee role : Name) (admin before after : Bool) → i < length changes → change ≡ get_or changes i change
    → before ≡ list_any (grants_role_as grantee role admin) (applied_all (take i changes) grants).role → after ≡ role_after grantee role admin change before
    → after ≡ list_any (grants_role_as grantee role admin) (applied_all (take (i + 1) changes) grants).role
role_more changes i change grants grantee role admin before after within is was becomes =
    becomes ∙ (ap (role_after grantee role admin change) was
    ∙ (sym (role_stands (applied_all (take i changes) grants) grantee role admin change)
    ∙ ap (λ (g : Grants). list_any (grants_role_as grantee role admin) g.role) (sym (one_more changes i change grants within is))))

pub object_more : (changes : List GrantChange) (i : ℕ) (change : GrantChange) (grants : Grants) (grantee : Name) (table : TableName) (action : Action) (before after : Bool) → i < length changes → change ≡ get_or changes i change
    → before ≡ list_any (grants_object grantee table action) (applied_all (take i changes) grants).object → after ≡ object_after grantee table action change before
    → after ≡ list_any (grants_object grantee table action) (applied_all (take (i + 1) changes) grants).object
object_more changes i change grants grantee table action before after within is was becomes =
    becomes ∙ (ap (object_after grantee table action change) was
    ∙ (sym (object_stands (applied_all (take i changes) grants) grantee table action change)
    ∙ ap (λ (g : Grants). list_any (grants_object grantee table action) g.object) (sym (one_more changes i change grants within is))))
