-- Rights that are looked for, who holds them, and which of several is the first that is held.
use Rattle.std.specs.Prelude.{◌≡◌, ◌<◌, ◌&&◌, ◌||◌, ℕ, List, Bool, true, false, not, IsTrue, Some}
use Rattle.std.specs.List.{slice_get}
use Rattle.std.specs.Str.{bytes_eq}
use Rattle.au_base.specs.declared.action.Action.{Action}
use Rattle.au_base.specs.declared.table.TableName.{TableName}
pub use Rattle.au_base.specs.Sameness.{same_action, same_privilege, same_table}
use Rattle.au_base.specs.declared.privilege.Privilege.{Privilege}
use Rattle.au_base.specs.declared.privilege.Privilege.TheVariants.{SelectAnyTable, InsertAnyTable, UpdateAnyTable, DeleteAnyTable}
use Rattle.au_grants.specs.declared.grants.Grants.{Grants}
use Rattle.au_grants.specs.declared.right.Sought.{Sought}
use Rattle.au_grants.specs.declared.right.Sought.TheVariants.{Role, RoleWithAdmin, Privilege as SystemPrivilege, PrivilegeWithAdmin, AnyTable, Object, SomeObject}
use Rattle.au_grants.specs.Rights.{Name, SystemEntry, RoleEntry, ObjectEntry, AdministersPrivilege, AdministersRole, HasObjectPrivilege, HasSomeObjectPrivilege, HoldsPrivilege, HoldsRole}

-- the system privilege allows an action on any table
abbrev pub is_any_table : Privilege → Bool
is_any_table SelectAnyTable = true
is_any_table InsertAnyTable = true
is_any_table UpdateAnyTable = true
is_any_table DeleteAnyTable = true
is_any_table _ = false

-- the user holds the right: it is granted to the user or to a held role
abbrev pub Holds : Grants → Name → Sought → Type 0
Holds grants user (Role role) = HoldsRole grants.role user role.now
Holds grants user (RoleWithAdmin role) = AdministersRole grants user role.now
Holds grants user (SystemPrivilege privilege) = HoldsPrivilege grants user privilege
Holds grants user (PrivilegeWithAdmin privilege) = AdministersPrivilege grants user privilege
Holds grants user AnyTable = (privilege : Privilege) × IsTrue (is_any_table privilege) × HoldsPrivilege grants user privilege
Holds grants user (Object table action) = HasObjectPrivilege grants user table.now action
Holds grants user (SomeObject table) = HasSomeObjectPrivilege grants user table.now

-- the user holds none of the rights
abbrev pub HoldsNone : Grants → Name → List Sought → Type 0
HoldsNone grants user rights = (k : ℕ) (right : Sought) → slice_get rights k ≡ Some right → ¬ Holds grants user right

-- the user holds the right at the place, and none of those before it
abbrev pub IsFirstHeld : Grants → Name → List Sought → ℕ → Type 0
IsFirstHeld grants user rights place =
    ((right : Sought) × (slice_get rights place ≡ Some right) × Holds grants user right)
    × ((k : ℕ) (right : Sought) → k < place → slice_get rights k ≡ Some right → ¬ Holds grants user right)

-- the entry grants this role to this grantee
abbrev pub grants_role : Name → Name → RoleEntry → Bool
grants_role grantee role entry = bytes_eq entry.0 grantee && bytes_eq entry.1 role

-- the entry grants this system privilege to this grantee
abbrev pub grants_privilege : Name → Privilege → SystemEntry → Bool
grants_privilege grantee privilege entry = bytes_eq entry.0 grantee && same_privilege entry.1 privilege

-- the entry grants this object privilege to this grantee
abbrev pub grants_object : Name → TableName → Action → ObjectEntry → Bool
grants_object grantee table action entry = bytes_eq entry.0 grantee && same_table entry.1 table && same_action entry.2 action

-- the entry grants this system privilege to this grantee, and with admin option where that is asked
abbrev pub grants_privilege_as : Name → Privilege → Bool → SystemEntry → Bool
grants_privilege_as grantee privilege admin entry = grants_privilege grantee privilege entry && (entry.2 || not admin)

-- the entry grants this role to this grantee, and with admin option where that is asked
abbrev pub grants_role_as : Name → Name → Bool → RoleEntry → Bool
grants_role_as grantee role admin entry = grants_role grantee role entry && (entry.2 || not admin)
