-- What changes make of grants (SQL Language Reference, "GRANT", "REVOKE", "DROP USER", "DROP ROLE" and "DROP TABLE").
use Rattle.std.specs.Prelude.{List, [], ◌∷◌, map, Bool, false, not, ◌||◌, if◌then◌else◌}
use Rattle.std.specs.List.{filter, list_any}
use Rattle.std.specs.Str.{bytes_eq}
use Rattle.au_base.specs.declared.table.TableName.{TableName}
use Rattle.au_grants.specs.declared.change.GrantChange.{GrantChange}
use Rattle.au_grants.specs.declared.change.GrantChange.TheVariants.{UserGone, RoleGone, SystemGrant, SystemRevoke, RoleGrant, RoleRevoke, ObjectGrant, ObjectRevoke, TableGone}
use Rattle.au_grants.specs.declared.grants.Grants.{Grants}
use Rattle.au_grants.specs.Holding.{same_table, grants_role, grants_privilege, grants_object}
use Rattle.au_grants.specs.Order.{object_before, placed, role_before, system_before}
use Rattle.au_grants.specs.Rights.{Name, SystemEntry, RoleEntry, ObjectEntry, IsHolder}

-- the entries that the test doesn't name
abbrev pub without : {X : Type 0} → (X → Bool) → List X → List X
without test entries = filter (λ entry. not (test entry)) entries

-- the entry, with this admin option where the test names it
abbrev pub with_admin : {X Y : Type 0} → (X × Y × Bool → Bool) → Bool → X × Y × Bool → X × Y × Bool
with_admin test admin entry = if test entry then (entry.0, entry.1, admin) else entry

-- a grant that is there keeps its place and gets the admin option; a new one stands in order
abbrev pub with_grant : {X Y : Type 0} → (X × Y × Bool → X × Y × Bool → Bool) → (X × Y × Bool → Bool) → X × Y × Bool → List (X × Y × Bool) → List (X × Y × Bool)
with_grant before test grant entries = if list_any test entries then map (with_admin test grant.2) entries else placed before grant entries

-- the entry grants something to the name
abbrev pub system_to : Name → SystemEntry → Bool
system_to name entry = bytes_eq entry.0 name

-- the same of a grant of a role
abbrev pub role_to : Name → RoleEntry → Bool
role_to name entry = bytes_eq entry.0 name

-- the same of a grant of an object privilege
abbrev pub object_to : Name → ObjectEntry → Bool
object_to name entry = bytes_eq entry.0 name

-- the entry grants something to the role, or the role itself
abbrev pub names_role : Name → RoleEntry → Bool
names_role role entry = bytes_eq entry.0 role || bytes_eq entry.1 role

-- the entry is about the table
abbrev pub names_table : TableName → ObjectEntry → Bool
names_table table entry = same_table entry.1 table

-- the grants with the object privilege: one that is there stays, a new one stands in order
abbrev pub with_object : ObjectEntry → List ObjectEntry → List ObjectEntry
with_object grant entries = if list_any (grants_object grant.0 grant.1 grant.2) entries then entries else placed object_before grant entries

-- the grants after the change
abbrev pub applied : GrantChange → Grants → Grants
applied (UserGone user) grants = record { system = without (system_to user) grants.system; role = without (role_to user) grants.role; object = without (object_to user) grants.object }
applied (RoleGone role) grants = record { system = without (system_to role) grants.system; role = without (names_role role) grants.role; object = without (object_to role) grants.object }
applied (SystemGrant grantee privilege admin) grants = record grants { system = with_grant system_before (grants_privilege grantee privilege) (grantee, privilege, admin) grants.system }
applied (SystemRevoke grantee privilege) grants = record grants { system = without (grants_privilege grantee privilege) grants.system }
applied (RoleGrant grantee role admin) grants = record grants { role = with_grant role_before (grants_role grantee role) (grantee, role, admin) grants.role }
applied (RoleRevoke grantee role) grants = record grants { role = without (grants_role grantee role) grants.role }
applied (ObjectGrant grantee table action) grants = record grants { object = with_object (grantee, table, action) grants.object }
applied (ObjectRevoke grantee table action) grants = record grants { object = without (grants_object grantee table action) grants.object }
applied (TableGone table) grants = record grants { object = without (names_table table) grants.object }

-- the grants after all changes, in their order
abbrev pub applied_all : List GrantChange → Grants → Grants
applied_all [] grants = grants
applied_all (change ∷ changes) grants = applied_all changes (applied change grants)

-- a grant that is there, as the change that grants it
abbrev pub system_grant : SystemEntry → GrantChange
system_grant entry = SystemGrant entry.0 entry.1 entry.2

abbrev pub role_grant : RoleEntry → GrantChange
role_grant entry = RoleGrant entry.0 entry.1 entry.2

abbrev pub object_grant : ObjectEntry → GrantChange
object_grant entry = ObjectGrant entry.0 entry.1 entry.2

-- the change grants something
abbrev pub IsGrant : GrantChange → Type 0
IsGrant (SystemGrant grantee privilege admin) = Unit {0}
IsGrant (RoleGrant grantee role admin) = Unit {0}
IsGrant (ObjectGrant grantee table action) = Unit {0}
IsGrant _ = ⊥

-- the change drops a user, a role or a table
abbrev pub IsDrop : GrantChange → Type 0
IsDrop (UserGone user) = Unit {0}
IsDrop (RoleGone role) = Unit {0}
IsDrop (TableGone table) = Unit {0}
IsDrop _ = ⊥

-- the change adds a grant: one that isn't there, not even without the admin option
abbrev pub is_new : Grants → GrantChange → Bool
is_new grants (SystemGrant grantee privilege admin) = not (list_any (grants_privilege grantee privilege) grants.system)
is_new grants (RoleGrant grantee role admin) = not (list_any (grants_role grantee role) grants.role)
is_new grants (ObjectGrant grantee table action) = not (list_any (grants_object grantee table action) grants.object)
is_new grants _ = false

-- the role is granted to itself, or to one that it holds
abbrev pub Closes : List RoleEntry → GrantChange → Type 0
Closes roles (RoleGrant grantee role admin) = IsHolder roles role grantee
Closes roles _ = ⊥
