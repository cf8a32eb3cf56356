-- What a statement about users, roles and rights is, where it sets no password (SQL Language Reference, "SQL Statements";
-- the choice of rules is this project's profile).
use Rattle.std.specs.Prelude.{ℕ, List, codes}
use Rattle.au_base.specs.declared.grant.GrantStatement.{GrantStatement}
use Rattle.au_base.specs.declared.table.TableReference.{TableReference}
use Rattle.sql_lex.specs.declared.token.Kind.{Kind}
use Rattle.sql_lex.specs.declared.token.Kind.TheVariants.{Word}
use Rattle.sql_ast.specs.declared.statement.Statement.{Statement}
use Rattle.sql_ast.specs.declared.statement.Statement.TheVariants as statement
use Rattle.sql_parse.specs.Rules.{After}
use Rattle.sql_parse.specs.Tables.{Name, Table}
use Rattle.sql_parse.specs.Whole.{WholeOf}
use Rattle.sql_parse.specs.Grants.{IsGrant}

-- both words, and then what the rule reads
abbrev pub Behind : {A : Type 0} → List ℕ → List ℕ → (List Kind → A → List Kind → Type 0) → List Kind → A → List Kind → Type 0
Behind first second Item = After (Word first) (After (Word second) Item)

-- a statement of these, without the `;` behind it
pub data RightsStatement : List Kind → Statement → List Kind → Type 0 where
  -- DropTable = DROP TABLE table
  drops_table : {i o : List Kind} {t : TableReference} → Behind (codes "DROP") (codes "TABLE") Table i t o → RightsStatement i (statement.DropTable t) o
  -- DropUser = DROP USER name
  drops_user : {i o : List Kind} {n : List ℕ} → Behind (codes "DROP") (codes "USER") Name i n o → RightsStatement i (statement.DropUser n) o
  -- CreateRole = CREATE ROLE name
  creates_role : {i o : List Kind} {n : List ℕ} → Behind (codes "CREATE") (codes "ROLE") Name i n o → RightsStatement i (statement.CreateRole n) o
  -- DropRole = DROP ROLE name
  drops_role : {i o : List Kind} {n : List ℕ} → Behind (codes "DROP") (codes "ROLE") Name i n o → RightsStatement i (statement.DropRole n) o
  grants : {i o : List Kind} {x : GrantStatement} → IsGrant i x o → RightsStatement i (statement.Grant x) o

-- the tokens are this statement, with `;` behind it or without
abbrev pub IsRightsStatement : List Kind → Statement → Type 0
IsRightsStatement = WholeOf RightsStatement
