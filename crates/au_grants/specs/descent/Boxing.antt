-- Changes whose new grant has its box.
use Rattle.au_grants.specs.declared.change.GrantChange.{GrantChange}
use Rattle.au_grants.specs.declared.change.GrantChange.TheVariants.{UserGone, RoleGone, SystemGrant, SystemRevoke, RoleGrant, RoleRevoke, ObjectGrant, ObjectRevoke, TableGone}
use Rattle.au_grants.specs.declared.edit.BoxedChange.{BoxedChange}
use Rattle.au_grants.specs.declared.edit.BoxedChange.TheVariants as B

-- the change
abbrev pub change_of : BoxedChange → GrantChange
change_of (B.UserGone user) = UserGone user
change_of (B.RoleGone role) = RoleGone role
change_of (B.SystemGrant grant) = SystemGrant grant.0 grant.1 grant.2
change_of (B.SystemRevoke grantee privilege) = SystemRevoke grantee privilege
change_of (B.RoleGrant grant) = RoleGrant grant.0 grant.1 grant.2
change_of (B.RoleRevoke grantee role) = RoleRevoke grantee role
change_of (B.ObjectGrant grant) = ObjectGrant grant.0 grant.1 grant.2
change_of (B.ObjectRevoke grantee table action) = ObjectRevoke grantee table action
change_of (B.TableGone table) = TableGone table
