-- What is decided of the statements on tables, users, roles and grants.
use Rattle.std.specs.Prelude.{◌≤◌, ⊤, Bool, true, false, length}
use Rattle.std.specs.List.{AllByRecursion}
use Rattle.au_define.specs.Granting.{DecidesGrant}
use Rattle.au_define.specs.Roles.{DecidesCreateRole, DecidesDropRole}
use Rattle.au_define.specs.Settings.{Setting}
use Rattle.au_define.specs.Tables.{DecidesCreateTable, DecidesDropTable}
use Rattle.au_define.specs.Users.{DecidesAlterUser, DecidesCreateUser, DecidesDropUser}
use Rattle.au_entries.specs.declared.decision.Decision.{Decision}
use Rattle.au_entries.specs.Replaying.{IsSizeOf}
use Rattle.sql_ast.specs.declared.statement.Statement.{Statement}
use Rattle.sql_ast.specs.declared.statement.Statement.TheVariants.{CreateTable, DropTable, CreateUser, AlterUser, DropUser, CreateRole, DropRole, Grant}
use Rattle.sql_ast.specs.declared.table.Element.{Element}
use Rattle.sql_ast.specs.declared.table.Element.TheVariants.{Column, PrimaryKey}

-- the statement is one on tables, users, roles or grants
abbrev pub is_definition : Statement → Bool
is_definition (CreateTable create) = true
is_definition (DropTable table) = true
is_definition (CreateUser user password) = true
is_definition (AlterUser user password) = true
is_definition (DropUser user) = true
is_definition (CreateRole role) = true
is_definition (DropRole role) = true
is_definition (Grant grant) = true
is_definition _ = false

-- the size of a column is in its kind's range; a key that is written by itself names a column
abbrev pub IsSized : Element → Type 0
IsSized (Column column key) = IsSizeOf column.kind column.size
IsSized (PrimaryKey names) = 1 ≤ length names

-- What CREATE TABLE defines has at least one column or key, each sized. The grammar has no other statements.
abbrev pub IsWellFormed : Statement → Type 0
IsWellFormed (CreateTable create) = (1 ≤ length create.elements) × AllByRecursion IsSized create.elements
IsWellFormed _ = ⊤

-- what is decided of it; of another statement nothing is
abbrev pub Decides : Setting → Statement → Decision → Type 0
Decides setting (CreateTable create) decision = DecidesCreateTable setting create decision
Decides setting (DropTable table) decision = DecidesDropTable setting table decision
Decides setting (CreateUser user password) decision = DecidesCreateUser setting user password decision
Decides setting (AlterUser user password) decision = DecidesAlterUser setting user password decision
Decides setting (DropUser user) decision = DecidesDropUser setting user decision
Decides setting (CreateRole role) decision = DecidesCreateRole setting role decision
Decides setting (DropRole role) decision = DecidesDropRole setting role decision
Decides setting (Grant grant) decision = DecidesGrant setting grant decision
Decides setting _ decision = ⊥
