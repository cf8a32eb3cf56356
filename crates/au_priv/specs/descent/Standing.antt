-- What is granted directly once a change is made, by whether it was granted before; and which changes lie on no way
-- from a role to a grantee.
use Rattle.std.specs.Prelude.{◌≡◌, ◌⊎◌, List, Bool, false, not, ◌&&◌, ◌||◌, if◌then◌else◌}
use Rattle.std.specs.Str.{bytes_eq}
use Rattle.au_base.specs.declared.action.Action.{Action}
use Rattle.au_base.specs.declared.privilege.Privilege.{Privilege}
use Rattle.au_base.specs.declared.table.TableName.{TableName}
use Rattle.au_grants.specs.declared.change.GrantChange.{GrantChange}
use Rattle.au_grants.specs.declared.change.GrantChange.TheVariants.{UserGone, RoleGone, SystemGrant, SystemRevoke, RoleGrant, RoleRevoke, ObjectGrant, ObjectRevoke, TableGone}
use Rattle.au_grants.specs.Holding.{grants_object, grants_privilege, grants_role, same_table}
use Rattle.au_grants.specs.Rights.{IsHolder, Name, RoleEntry}

-- the system privilege is granted to the grantee, and with admin option where that is asked
abbrev pub privilege_after : Name → Privilege → Bool → GrantChange → Bool → Bool
privilege_after grantee privilege admin (SystemGrant to granted option) before = if grants_privilege to granted (grantee, privilege, false) then option || not admin else before
privilege_after grantee privilege admin (SystemRevoke from revoked) before = not (grants_privilege from revoked (grantee, privilege, false)) && before
privilege_after grantee privilege admin (UserGone user) before = not (bytes_eq grantee user) && before
privilege_after grantee privilege admin (RoleGone role) before = not (bytes_eq grantee role) && before
privilege_after grantee privilege admin _ before = before

-- the same of a role
abbrev pub role_after : Name → Name → Bool → GrantChange → Bool → Bool
role_after grantee role admin (RoleGrant to granted option) before = if grants_role to granted (grantee, role, false) then option || not admin else before
role_after grantee role admin (RoleRevoke from revoked) before = not (grants_role from revoked (grantee, role, false)) && before
role_after grantee role admin (UserGone user) before = not (bytes_eq grantee user) && before
role_after grantee role admin (RoleGone gone) before = not (bytes_eq grantee gone || bytes_eq role gone) && before
role_after grantee role admin _ before = before

-- the object privilege is granted to the grantee
abbrev pub object_after : Name → TableName → Action → GrantChange → Bool → Bool
object_after grantee table action (ObjectGrant to on granted) before = grants_object to on granted (grantee, table, action) || before
object_after grantee table action (ObjectRevoke from on revoked) before = not (grants_object from on revoked (grantee, table, action)) && before
object_after grantee table action (UserGone user) before = not (bytes_eq grantee user) && before
object_after grantee table action (RoleGone role) before = not (bytes_eq grantee role) && before
object_after grantee table action (TableGone gone) before = not (same_table table gone) && before
object_after grantee table action _ before = before

-- the change takes no role away, and a role that it grants leads from the role to the grantee on no way: it leads back to
-- the role, or on from the grantee, or on from a name whose rights the role doesn't have
abbrev pub IsAside : List RoleEntry → Name → Name → GrantChange → Type 0
IsAside roles role grantee (RoleGrant to granted admin) = (granted ≡ role) ⊎ ((to ≡ grantee) ⊎ (¬ IsHolder roles role to))
IsAside roles role grantee (RoleRevoke from revoked) = ⊥
IsAside roles role grantee (UserGone user) = ⊥
IsAside roles role grantee (RoleGone gone) = ⊥
IsAside roles role grantee _ = Unit {0}
