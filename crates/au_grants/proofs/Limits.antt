-- How many grants changes make.
use Rattle.std.proofs.Common.{◌≡◌, ◌≤◌, ◌+◌, Bool, true, false, not, cond, List, [], ◌∷◌, ◌++◌, length, map, refl, arith}
use Rattle.std.specs.List.{filter, list_any}
use Rattle.au_grants.specs.declared.change.GrantChange.{GrantChange}
use Rattle.au_grants.specs.declared.change.GrantChange.TheVariants.{UserGone, RoleGone, SystemGrant, SystemRevoke, RoleGrant, RoleRevoke, ObjectGrant, ObjectRevoke, TableGone}
use Rattle.au_grants.specs.Changing.{IsGrant, applied, is_new, names_role, names_table, object_to, role_to, system_to, with_admin}
use Rattle.au_grants.specs.Holding.{grants_object, grants_privilege, grants_role}
use Rattle.au_grants.specs.Order.{object_before, placed, role_before, system_before}
use Rattle.au_grants.specs.Rights.{Grants, ObjectEntry, grant_count}

-- how long the lists are that changes make

fewer_at : {X : Type 0} (x : X) (rest xs : List X) (b : Bool) → length rest ≤ length xs → length (cond b (x ∷ rest) rest) ≤ length (x ∷ xs)
fewer_at x rest xs true le = omega (arith, le)
fewer_at x rest xs false le = omega (arith, le)

pub fewer : {X : Type 0} (test : X → Bool) (xs : List X) → length (filter test xs) ≤ length xs
fewer test [] = omega arith
fewer test (x ∷ xs) = fewer_at x (filter test xs) xs (test x) (fewer test xs)

as_many : {X Y : Type 0} (f : X → Y) (xs : List X) → length (map f xs) ≡ length xs
as_many f [] = refl
as_many f (x ∷ xs) = (let rest = as_many f xs in omega (arith, rest))

joined_length : {X : Type 0} (xs ys : List X) → length (xs ++ ys) ≡ length xs + length ys
joined_length [] ys = omega arith
joined_length (x ∷ xs) ys = (let rest = joined_length xs ys in omega (arith, rest))

parts_at : {X : Type 0} (x : X) (front behind xs : List X) (b : Bool) → length front + length behind ≡ length xs → length (cond b (x ∷ front) front) + length (cond (not b) (x ∷ behind) behind) ≡ length (x ∷ xs)
parts_at x front behind xs true is = omega (arith, is)
parts_at x front behind xs false is = omega (arith, is)

parts : {X : Type 0} (test : X → Bool) (xs : List X) → length (filter test xs) + length (filter (λ x. not (test x)) xs) ≡ length xs
parts test [] = refl
parts test (x ∷ xs) = parts_at x (filter test xs) (filter (λ y. not (test y)) xs) xs (test x) (parts test xs)

pub placed_length : {X : Type 0} (before : X → X → Bool) (entry : X) (xs : List X) → length (placed before entry xs) ≡ length xs + 1
placed_length before entry xs =
    let whole = parts (λ other. before other entry) xs in
    let all = joined_length (filter (λ other. before other entry) xs) (entry ∷ filter (λ other. not (before other entry)) xs) in
    omega (arith, whole, all)

pub granted_length : {X Y : Type 0} (before : X × Y × Bool → X × Y × Bool → Bool) (test : X × Y × Bool → Bool) (grant : X × Y × Bool) (xs : List (X × Y × Bool)) (change : GrantChange) (b : Bool)
    → length (cond b (map (with_admin test grant.2) xs) (placed before grant xs)) ≤ length xs + length (cond (not b) (change ∷ []) [])
granted_length before test grant xs change true = (let same = as_many (with_admin test grant.2) xs in omega (arith, same))
granted_length before test grant xs change false = (let more = placed_length before grant xs in omega (arith, more))

pub object_length : (grant : ObjectEntry) (xs : List ObjectEntry) (change : GrantChange) (b : Bool) → length (cond b xs (placed object_before grant xs)) ≤ length xs + length (cond (not b) (change ∷ []) [])
object_length grant xs change true = omega arith
object_length grant xs change false = (let more = placed_length object_before grant xs in omega (arith, more))

-- a change adds at most one grant, and none that is there
pub applied_count : (change : GrantChange) (grants : Grants) → grant_count (applied change grants) ≤ grant_count grants + length (filter (is_new grants) (change ∷ []))
applied_count (UserGone user) grants =
    (let a = fewer (λ e. not (system_to user e)) grants.system in let b = fewer (λ e. not (role_to user e)) grants.role in let c = fewer (λ e. not (object_to user e)) grants.object in omega (arith, a, b, c))
applied_count (RoleGone role) grants =
    (let a = fewer (λ e. not (system_to role e)) grants.system in let b = fewer (λ e. not (names_role role e)) grants.role in let c = fewer (λ e. not (object_to role e)) grants.object in omega (arith, a, b, c))
applied_count (SystemGrant grantee privilege admin) grants =
    (let a = granted_length system_before (grants_privilege grantee privilege) (grantee, privilege, admin) grants.system (SystemGrant grantee privilege admin) (list_any (grants_privilege grantee privilege) grants.system) in omega (arith, a))
applied_count (SystemRevoke grantee privilege) grants = (let a = fewer (λ e. not (grants_privilege grantee privilege e)) grants.system in omega (arith, a))
applied_count (RoleGrant grantee role admin) grants =
    (let a = granted_length role_before (grants_role grantee role) (grantee, role, admin) grants.role (RoleGrant grantee role admin) (list_any (grants_role grantee role) grants.role) in omega (arith, a))
applied_count (RoleRevoke grantee role) grants = (let a = fewer (λ e. not (grants_role grantee role e)) grants.role in omega (arith, a))
applied_count (ObjectGrant grantee table action) grants =
    (let a = object_length (grantee, table, action) grants.object (ObjectGrant grantee table action) (list_any (grants_object grantee table action) grants.object) in omega (arith, a))
applied_count (ObjectRevoke grantee table action) grants = (let a = fewer (λ e. not (grants_object grantee table action e)) grants.object in omega (arith, a))
applied_count (TableGone table) grants = (let a = fewer (λ e. not (names_table table e)) grants.object in omega (arith, a))

pub one_length : (change : GrantChange) (b : Bool) → length (cond b (change ∷ []) []) ≤ 1
one_length change true = omega arith
one_length change false = omega arith

-- a change adds one grant at most
pub grant_adds : (change : GrantChange) (grants : Grants) → grant_count (applied change grants) ≤ grant_count grants + 1
grant_adds change grants = (let bound = applied_count change grants in let one = one_length change (is_new grants change) in omega (arith, bound, one))

none_new : (change : GrantChange) (grants : Grants) (b : Bool) → b ≡ false → grant_count (applied change grants) ≤ grant_count grants + length (cond b (change ∷ []) []) → grant_count (applied change grants) ≤ grant_count grants
none_new change grants true is bound = absurd (let e : true ≡ false = is in cc)
none_new change grants false is bound = omega (arith, bound)

-- a change that grants nothing adds no grant
pub other_adds : (change : GrantChange) (grants : Grants) → (IsGrant change → ⊥) → grant_count (applied change grants) ≤ grant_count grants
other_adds (UserGone user) grants other = none_new (UserGone user) grants false refl (applied_count (UserGone user) grants)
other_adds (RoleGone role) grants other = none_new (RoleGone role) grants false refl (applied_count (RoleGone role) grants)
other_adds (SystemGrant grantee privilege admin) grants other = absurd (other tt)
other_adds (SystemRevoke grantee privilege) grants other = none_new (SystemRevoke grantee privilege) grants false refl (applied_count (SystemRevoke grantee privilege) grants)
other_adds (RoleGrant grantee role admin) grants other = absurd (other tt)
other_adds (RoleRevoke grantee role) grants other = none_new (RoleRevoke grantee role) grants false refl (applied_count (RoleRevoke grantee role) grants)
other_adds (ObjectGrant grantee table action) grants other = absurd (other tt)
other_adds (ObjectRevoke grantee table action) grants other = none_new (ObjectRevoke grantee table action) grants false refl (applied_count (ObjectRevoke grantee table action) grants)
other_adds (TableGone table) grants other = none_new (TableGone table) grants false refl (applied_count (TableGone table) grants)
