-- Reading statements about users, roles and rights by descent: what each function of the code answers.
use Rattle.std.specs.Prelude.{if◌then◌else◌, None, codes}
use Rattle.sql_lex.specs.declared.token.Kind.TheVariants.{Word}
use Rattle.sql_ast.specs.declared.statement.Statement.{Statement}
use Rattle.sql_ast.specs.declared.statement.Statement.TheVariants as statement
use Rattle.sql_parse.specs.Symbols.{sees}
use Rattle.sql_parse.specs.descent.Reading.{Reader, ◌>>=◌, under, behind, expect, name}
use Rattle.sql_parse.specs.descent.ReadTables.{table}
use Rattle.sql_parse_admin.specs.descent.ReadGrants.{grant, revoke}

-- behind DROP
unfoldable pub drop : Reader Statement
drop i =
    if sees (Word (codes "TABLE")) i then under statement.DropTable (table (behind i)) else (if sees (Word (codes "USER")) i then under statement.DropUser (name (behind i))
    else (if sees (Word (codes "ROLE")) i then under statement.DropRole (name (behind i)) else None))

unfoldable pub rights_statement : Reader Statement
rights_statement i =
    if sees (Word (codes "GRANT")) i then under statement.Grant (grant (behind i)) else (if sees (Word (codes "REVOKE")) i then under statement.Grant (revoke (behind i))
    else (if sees (Word (codes "DROP")) i then drop (behind i) else (if sees (Word (codes "CREATE")) i then (expect (Word (codes "ROLE")) (behind i) >>= λ j. under statement.CreateRole (name j)) else None)))
