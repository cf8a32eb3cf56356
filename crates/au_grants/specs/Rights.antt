-- Who has which right (Database Security Guide, "Configuring Privilege and Role Authorization").
use Rattle.std.specs.Prelude.{◌≡◌, ℕ, ◌+◌, List, [], ◌∷◌, ◌++◌, length, Bool, true, ◌⊎◌}
use Rattle.std.specs.List.{Contains}
use Rattle.au_base.specs.declared.action.Action.{Action}
use Rattle.au_base.specs.declared.privilege.Privilege.{Privilege}
use Rattle.au_base.specs.declared.table.TableName.{TableName}

-- a name, as its bytes
abbrev pub Name : Type 0
Name = List ℕ

-- a grant of a system privilege: the grantee, the privilege, the admin option
abbrev pub SystemEntry : Type 0
SystemEntry = Name × Privilege × Bool

-- a grant of a role: the grantee, the role, the admin option
abbrev pub RoleEntry : Type 0
RoleEntry = Name × Name × Bool

-- a grant of an object privilege: the grantee, the table, the action
abbrev pub ObjectEntry : Type 0
ObjectEntry = Name × TableName × Action

-- what was granted to whom
pub record Grants : Type 0 where
  pub system : List SystemEntry
  pub role : List RoleEntry
  pub object : List ObjectEntry

-- how many grants of all kinds there are
abbrev pub grant_count : Grants → ℕ
grant_count grants = length grants.system + length grants.role + length grants.object

-- the role is granted to the grantee directly
abbrev pub IsRoleGranted : List RoleEntry → Name → Name → Type 0
IsRoleGranted roles grantee role = (admin : Bool) × Contains roles (grantee, role, admin)

-- each role of the path is granted to the one before it, the first to `from`
abbrev pub IsChain : List RoleEntry → Name → List Name → Type 0
IsChain roles from [] = Unit {0}
IsChain roles from (role ∷ path) = IsRoleGranted roles from role × IsChain roles role path

-- some chain of role grants leads from the user to the role
abbrev pub HoldsRole : List RoleEntry → Name → Name → Type 0
HoldsRole roles user role = (path : List Name) × IsChain roles user (path ++ role ∷ [])

-- no chain of role grants leads from a name back to itself
abbrev pub HasNoCircle : List RoleEntry → Type 0
HasNoCircle roles = (name : Name) → ¬ HoldsRole roles name name

-- a name whose rights the user has: the user's own, or that of a role that the user holds
abbrev pub IsHolder : List RoleEntry → Name → Name → Type 0
IsHolder roles user holder = (holder ≡ user) ⊎ HoldsRole roles user holder

-- the system privilege is granted to the user or to a held role
abbrev pub HoldsPrivilege : Grants → Name → Privilege → Type 0
HoldsPrivilege grants user privilege =
    (holder : Name) × IsHolder grants.role user holder × ((admin : Bool) × Contains grants.system (holder, privilege, admin))

-- the system privilege is granted with admin option to the user or to a held role
abbrev pub AdministersPrivilege : Grants → Name → Privilege → Type 0
AdministersPrivilege grants user privilege =
    (holder : Name) × IsHolder grants.role user holder × Contains grants.system (holder, privilege, true)

-- the role is granted with admin option to the user or to a held role
abbrev pub AdministersRole : Grants → Name → Name → Type 0
AdministersRole grants user role =
    (holder : Name) × IsHolder grants.role user holder × Contains grants.role (holder, role, true)

-- the object privilege is granted to the user or to a held role
abbrev pub HasObjectPrivilege : Grants → Name → TableName → Action → Type 0
HasObjectPrivilege grants user table action =
    (holder : Name) × IsHolder grants.role user holder × Contains grants.object (holder, table, action)

-- some object privilege on the table is granted to the user or to a held role
abbrev pub HasSomeObjectPrivilege : Grants → Name → TableName → Type 0
HasSomeObjectPrivilege grants user table = (action : Action) × HasObjectPrivilege grants user table action
