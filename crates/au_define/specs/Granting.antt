-- How GRANT and REVOKE are decided here: as rights say, by the users, roles and tables that are there (SQL Language
-- Reference, "GRANT" and "REVOKE").
use Rattle.std.specs.Prelude.{◌≡◌, [], map, None}
use Rattle.au_base.specs.declared.grant.GrantStatement.{GrantStatement}
use Rattle.au_define.specs.Settings.{Setting}
use Rattle.au_entries.specs.declared.change.Change.{Change}
use Rattle.au_entries.specs.declared.change.Change.TheVariants as change
use Rattle.au_entries.specs.declared.decision.Decision.{Decision}
use Rattle.au_grants.specs.declared.change.GrantChange.{GrantChange}
use Rattle.au_grants.specs.declared.change.GrantChange.TheVariants.{UserGone, RoleGone, SystemGrant, SystemRevoke, RoleGrant, RoleRevoke, ObjectGrant, ObjectRevoke, TableGone}
use Rattle.au_priv.specs.declared.decided.Decided.{Decided}
use Rattle.au_priv.specs.declared.decided.Known.{Known}
use Rattle.au_priv.specs.Deciding.{Decides as DecidesRights}

-- the users, roles and tables that are there
abbrev pub known_of : Setting → Known
known_of setting = record { users = map (λ user. user.0) setting.users; roles = setting.roles; tables = map (λ table. table.name) setting.tables }

-- a change of grants, as a change of what is kept
abbrev pub change_of : GrantChange → Change
change_of (UserGone user) = change.UserGone user
change_of (RoleGone role) = change.RoleGone role
change_of (SystemGrant grantee privilege admin) = change.SysGrant grantee privilege admin
change_of (SystemRevoke grantee privilege) = change.SysRevoke grantee privilege
change_of (RoleGrant grantee role admin) = change.RoleGrant grantee role admin
change_of (RoleRevoke grantee role) = change.RoleRevoke grantee role
change_of (ObjectGrant grantee table action) = change.ObjGrant grantee table action
change_of (ObjectRevoke grantee table action) = change.ObjRevoke grantee table action
change_of (TableGone table) = change.TableGone table

-- what is decided of rights, as a decision
abbrev pub of_decided : Decided → Decision
of_decided decided = record { code = decided.code; used = decided.used; changes = map change_of decided.grants; purge = None; forgets = [] }

abbrev pub DecidesGrant : Setting → GrantStatement → Decision → Type 0
DecidesGrant setting statement decision =
    (decided : Decided) × DecidesRights setting.grants (known_of setting) setting.user statement decided × (decision ≡ of_decided decided)
