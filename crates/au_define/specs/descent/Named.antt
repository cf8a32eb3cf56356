-- What is there of the names that GRANT or REVOKE names.
use Rattle.std.specs.Prelude.{List, [], ◌∷◌, ◌++◌}
use Rattle.std.specs.List.{filter, flat_map}
use Rattle.au_base.specs.BuiltIn.{resolved_table}
use Rattle.au_base.specs.declared.grant.GrantStatement.{GrantStatement}
use Rattle.au_base.specs.declared.grant.GrantStatement.TheVariants as S
use Rattle.au_base.specs.declared.grant.Right.{Right}
use Rattle.au_base.specs.declared.grant.Right.TheVariants.{Privilege, Role}
use Rattle.au_base.specs.declared.table.TableName.{TableName}
use Rattle.au_define.specs.Settings.{Setting, has_role, has_table, has_user}
use Rattle.au_grants.specs.Rights.{Name}
use Rattle.au_priv.specs.declared.decided.Known.{Known}

-- the role that the right is, if it is one
abbrev pub roles_in : Right → List Name
roles_in (Privilege privilege) = []
roles_in (Role role) = role ∷ []

-- the grantees that are there, and the roles
abbrev pub known_of_rights : Setting → List Right → List Name → Known
known_of_rights setting rights grantees = record {
  users = filter (has_user setting) grantees;
  roles = filter (has_role setting) (grantees ++ flat_map roles_in rights);
  tables = [];
}

-- the grantees that are there, and the table
abbrev pub known_on_table : Setting → TableName → List Name → Known
known_on_table setting table grantees = record {
  users = filter (has_user setting) grantees;
  roles = filter (has_role setting) grantees;
  tables = filter (has_table setting) (table ∷ []);
}

-- what is there of the names that the statement names
abbrev pub known_named : Setting → GrantStatement → Known
known_named setting (S.Grant rights grantees admin) = known_of_rights setting rights grantees
known_named setting (S.Revoke rights grantees) = known_of_rights setting rights grantees
known_named setting (S.GrantObject rights table grantees) = known_on_table setting (resolved_table setting.user table) grantees
known_named setting (S.RevokeObject rights table grantees) = known_on_table setting (resolved_table setting.user table) grantees
