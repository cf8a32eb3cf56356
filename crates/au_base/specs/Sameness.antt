-- What is one and the same: names of tables by their bytes, privileges and actions by their numbers.
use Rattle.std.specs.Prelude.{Bool, ◌==◌, ◌&&◌}
use Rattle.std.specs.Str.{bytes_eq}
use Rattle.au_base.specs.declared.action.Action.{Action}
use Rattle.au_base.specs.declared.privilege.Privilege.{Privilege}
use Rattle.au_base.specs.declared.table.TableName.{TableName}
use Rattle.au_base.specs.Actions as actions
use Rattle.au_base.specs.Privileges as privileges

-- two names of tables are the same
abbrev pub same_table : TableName → TableName → Bool
same_table a b = bytes_eq a.owner b.owner && bytes_eq a.name b.name

-- two system privileges are the same
abbrev pub same_privilege : Privilege → Privilege → Bool
same_privilege a b = privileges.code_of a == privileges.code_of b

-- two actions are the same
abbrev pub same_action : Action → Action → Bool
same_action a b = actions.code_of a == actions.code_of b
