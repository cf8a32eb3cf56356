-- What is granted directly.
use Rattle.std.specs.Prelude.{◌&&◌, Bool, true, IsTrue}
use Rattle.std.specs.List.{Contains}
use Rattle.std.specs.Str.{bytes_eq}
use Rattle.au_base.specs.declared.action.Action.{Action}
use Rattle.au_base.specs.declared.privilege.Privilege.{Privilege}
use Rattle.au_base.specs.declared.table.TableName.{TableName}
use Rattle.au_base.specs.Sameness.{same_table}
use Rattle.au_grants.specs.declared.grants.Grants.{Grants}
use Rattle.au_grants.specs.declared.right.Sought.{Sought}
use Rattle.au_grants.specs.declared.right.Sought.TheVariants.{Role, RoleWithAdmin, Privilege as SystemPrivilege, PrivilegeWithAdmin, AnyTable, Object, SomeObject}
use Rattle.au_grants.specs.Holding.{is_any_table}
use Rattle.au_grants.specs.Rights.{Name, ObjectEntry, SystemEntry, IsRoleGranted}

-- the right is granted to the holder directly
abbrev pub IsGranted : Grants → Name → Sought → Type 0
IsGranted grants holder (Role role) = IsRoleGranted grants.role holder role.now
IsGranted grants holder (RoleWithAdmin role) = Contains grants.role (holder, role.now, true)
IsGranted grants holder (SystemPrivilege privilege) = (admin : Bool) × Contains grants.system (holder, privilege, admin)
IsGranted grants holder (PrivilegeWithAdmin privilege) = Contains grants.system (holder, privilege, true)
IsGranted grants holder AnyTable = (privilege : Privilege) × (admin : Bool) × IsTrue (is_any_table privilege) × Contains grants.system (holder, privilege, admin)
IsGranted grants holder (Object table action) = Contains grants.object (holder, table.now, action)
IsGranted grants holder (SomeObject table) = (action : Action) × Contains grants.object (holder, table.now, action)

-- the entry grants some system privilege on any table to this grantee
abbrev pub grants_any_table : Name → SystemEntry → Bool
grants_any_table grantee entry = bytes_eq entry.0 grantee && is_any_table entry.1

-- the entry grants some object privilege on the table to this grantee
abbrev pub grants_some_object : Name → TableName → ObjectEntry → Bool
grants_some_object grantee table entry = bytes_eq entry.0 grantee && same_table entry.1 table
