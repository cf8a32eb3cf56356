-- Room for the grants that changes add.
use Rattle.std.proofs.Common.{◌≡◌, ◌≤◌, ◌+◌, Bool, true, false, not, cond, List, [], ◌∷◌, length, ap, arith}
use Rattle.std.specs.List.{filter, list_any}
use Rattle.au_grants.specs.declared.change.GrantChange.{GrantChange}
use Rattle.au_grants.specs.declared.change.GrantChange.TheVariants.{UserGone, RoleGone, SystemGrant, SystemRevoke, RoleGrant, RoleRevoke, ObjectGrant, ObjectRevoke, TableGone}
use Rattle.au_grants.specs.declared.kind.Kind.TheVariants as K
use Rattle.au_grants.specs.declared.lists.GrantLists.{GrantLists}
use Rattle.au_grants.specs.Changing.{applied, names_role, names_table, object_to, role_to, system_to}
use Rattle.au_grants.specs.Holding.{grants_object, grants_privilege, grants_role}
use Rattle.au_grants.specs.Order.{role_before, system_before}
use Rattle.au_grants.specs.Rights.{Grants}
use Rattle.au_grants.specs.descent.Editing.{HasRoom, KeepsCapacity, adds, listed}
use Rattle.au_grants.proofs.Limits.{fewer, granted_length, object_length, one_length}

pub parted : {X : Type 0} (b : Bool) (x : X) (rest : List X) → length (cond b (x ∷ rest) rest) ≡ length (cond b (x ∷ []) []) + length rest
parted true x rest = omega arith
parted false x rest = omega arith

-- a change adds no grant of another kind than its own, and of that one at most
pub system_grows : (change : GrantChange) (grants : Grants) → length (applied change grants).system ≤ length grants.system + length (filter (adds K.Privilege) (change ∷ []))
system_grows (UserGone user) grants = (let a = fewer (λ e. not (system_to user e)) grants.system in omega (arith, a))
system_grows (RoleGone role) grants = (let a = fewer (λ e. not (system_to role e)) grants.system in omega (arith, a))
system_grows (SystemGrant grantee privilege admin) grants =
    let there = list_any (grants_privilege grantee privilege) grants.system in
    let change = SystemGrant grantee privilege admin in
    (let a = granted_length system_before (grants_privilege grantee privilege) (grantee, privilege, admin) grants.system change there in let one = one_length change (not there) in omega (arith, a, one))
system_grows (SystemRevoke grantee privilege) grants = (let a = fewer (λ e. not (grants_privilege grantee privilege e)) grants.system in omega (arith, a))
system_grows (RoleGrant grantee role admin) grants = omega arith
system_grows (RoleRevoke grantee role) grants = omega arith
system_grows (ObjectGrant grantee table action) grants = omega arith
system_grows (ObjectRevoke grantee table action) grants = omega arith
system_grows (TableGone table) grants = omega arith

pub role_grows : (change : GrantChange) (grants : Grants) → length (applied change grants).role ≤ length grants.role + length (filter (adds K.Role) (change ∷ []))
role_grows (UserGone user) grants = (let a = fewer (λ e. not (role_to user e)) grants.role in omega (arith, a))
role_grows (RoleGone role) grants = (let a = fewer (λ e. not (names_role role e)) grants.role in omega (arith, a))
role_grows (SystemGrant grantee privilege admin) grants = omega arith
role_grows (SystemRevoke grantee privilege) grants = omega arith
role_grows (RoleGrant grantee role admin) grants =
    let there = list_any (grants_role grantee role) grants.role in
    let change = RoleGrant grantee role admin in
    (let a = granted_length role_before (grants_role grantee role) (grantee, role, admin) grants.role change there in let one = one_length change (not there) in omega (arith, a, one))
role_grows (RoleRevoke grantee role) grants = (let a = fewer (λ e. not (grants_role grantee role e)) grants.role in omega (arith, a))
role_grows (ObjectGrant grantee table action) grants = omega arith
role_grows (ObjectRevoke grantee table action) grants = omega arith
role_grows (TableGone table) grants = omega arith

pub object_grows : (change : GrantChange) (grants : Grants) → length (applied change grants).object ≤ length grants.object + length (filter (adds K.Object) (change ∷ []))
object_grows (UserGone user) grants = (let a = fewer (λ e. not (object_to user e)) grants.object in omega (arith, a))
object_grows (RoleGone role) grants = (let a = fewer (λ e. not (object_to role e)) grants.object in omega (arith, a))
object_grows (SystemGrant grantee privilege admin) grants = omega arith
object_grows (SystemRevoke grantee privilege) grants = omega arith
object_grows (RoleGrant grantee role admin) grants = omega arith
object_grows (RoleRevoke grantee role) grants = omega arith
object_grows (ObjectGrant grantee table action) grants =
    let there = list_any (grants_object grantee table action) grants.object in
    let change = ObjectGrant grantee table action in
    (let a = object_length (grantee, table, action) grants.object change there in let one = one_length change (not there) in omega (arith, a, one))
object_grows (ObjectRevoke grantee table action) grants = (let a = fewer (λ e. not (grants_object grantee table action e)) grants.object in omega (arith, a))
object_grows (TableGone table) grants = (let a = fewer (λ e. not (names_table table e)) grants.object in omega (arith, a))

-- room for some changes is room for the first
pub room_first : (change : GrantChange) (rest : List GrantChange) (lists : GrantLists) → HasRoom (change ∷ rest) lists → HasRoom (change ∷ []) lists
room_first change rest lists room = record {
  system = (let all = room.system in let parts = parted (adds K.Privilege change) change (filter (adds K.Privilege) rest) in omega (arith, all, parts));
  role = (let all = room.role in let parts = parted (adds K.Role change) change (filter (adds K.Role) rest) in omega (arith, all, parts));
  object = (let all = room.object in let parts = parted (adds K.Object change) change (filter (adds K.Object) rest) in omega (arith, all, parts));
}

-- and, once the first is made, for the others
pub room_left : (change : GrantChange) (rest : List GrantChange) (lists later : GrantLists) → HasRoom (change ∷ rest) lists → listed later ≡ applied change (listed lists) → KeepsCapacity lists later
    → HasRoom rest later
room_left change rest lists later room makes keeps = record {
  system = (let all = room.system in
      let parts = parted (adds K.Privilege change) change (filter (adds K.Privilege) rest) in
      let grows = system_grows change (listed lists) in
      let same : length later.system.items ≡ length (applied change (listed lists)).system = ap (λ (g : Grants). length g.system) makes in
      let large = keeps.system in
      omega (arith, all, parts, grows, same, large));
  role = (let all = room.role in
      let parts = parted (adds K.Role change) change (filter (adds K.Role) rest) in
      let grows = role_grows change (listed lists) in
      let same : length later.role.items ≡ length (applied change (listed lists)).role = ap (λ (g : Grants). length g.role) makes in
      let large = keeps.role in
      omega (arith, all, parts, grows, same, large));
  object = (let all = room.object in
      let parts = parted (adds K.Object change) change (filter (adds K.Object) rest) in
      let grows = object_grows change (listed lists) in
      let same : length later.object.items ≡ length (applied change (listed lists)).object = ap (λ (g : Grants). length g.object) makes in
      let large = keeps.object in
      omega (arith, all, parts, grows, same, large));
}
