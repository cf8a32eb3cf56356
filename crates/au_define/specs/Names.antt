-- The names that a statement is about.
use Rattle.std.specs.Prelude.{⊤, ℕ, List, Option, Some, None}
use Rattle.std.specs.List.{AllByRecursion}
use Rattle.au_base.specs.Naming.{IsName}
use Rattle.au_base.specs.declared.grant.GrantStatement.{GrantStatement}
use Rattle.au_base.specs.declared.grant.GrantStatement.TheVariants as S
use Rattle.au_base.specs.declared.grant.Right.{Right}
use Rattle.au_base.specs.declared.grant.Right.TheVariants.{Privilege, Role}
use Rattle.au_base.specs.declared.table.TableReference.{TableReference}
use Rattle.sql_ast.specs.declared.statement.Statement.{Statement}
use Rattle.sql_ast.specs.declared.statement.Statement.TheVariants.{CreateTable, DropTable, CreateUser, AlterUser, DropUser, CreateRole, DropRole, Grant}
use Rattle.sql_ast.specs.declared.table.Element.{Element}
use Rattle.sql_ast.specs.declared.table.Element.TheVariants.{Column, PrimaryKey}

abbrev pub IsOwnerNamed : Option (List ℕ) → Type 0
IsOwnerNamed None = ⊤
IsOwnerNamed (Some owner) = IsName owner

-- the table's name is one, and so is its owner's, where that is written
abbrev pub IsTableNamed : TableReference → Type 0
IsTableNamed table = IsOwnerNamed table.owner × IsName table.name

-- the name of a column is one; those of a key are names of columns where no rule is broken
abbrev pub IsElementNamed : Element → Type 0
IsElementNamed (Column column key) = IsName column.name
IsElementNamed (PrimaryKey names) = ⊤

abbrev pub IsRightNamed : Right → Type 0
IsRightNamed (Privilege privilege) = ⊤
IsRightNamed (Role role) = IsName role

abbrev pub IsGrantNamed : GrantStatement → Type 0
IsGrantNamed (S.Grant rights grantees admin) = AllByRecursion IsRightNamed rights × AllByRecursion IsName grantees
IsGrantNamed (S.Revoke rights grantees) = AllByRecursion IsRightNamed rights × AllByRecursion IsName grantees
IsGrantNamed (S.GrantObject rights table grantees) = IsTableNamed table × AllByRecursion IsName grantees
IsGrantNamed (S.RevokeObject rights table grantees) = IsTableNamed table × AllByRecursion IsName grantees

-- each name in the statement is one, as the types of the program have it
abbrev pub IsNamed : Statement → Type 0
IsNamed (CreateTable create) = IsTableNamed create.table × AllByRecursion IsElementNamed create.elements
IsNamed (DropTable table) = IsTableNamed table
IsNamed (CreateUser user password) = IsName user
IsNamed (AlterUser user password) = IsName user
IsNamed (DropUser user) = IsName user
IsNamed (CreateRole role) = IsName role
IsNamed (DropRole role) = IsName role
IsNamed (Grant grant) = IsGrantNamed grant
IsNamed _ = ⊤
