-- The kinds of statements, told apart by their first two words.
use Rattle.std.specs.Prelude.{ℕ, if◌then◌else◌, List, codes}
use Rattle.sql_lex.specs.declared.token.Kind.{Kind}
use Rattle.sql_lex.specs.declared.token.Kind.TheVariants.{Word}
use Rattle.sql_lex.specs.declared.token.Token.{Token}
use Rattle.sql_ast.specs.declared.statement.Statement.{Statement}
use Rattle.sql_parse.specs.Symbols.{kinds, sees}
use Rattle.sql_parse.specs.descent.Reading.{behind}
use Rattle.sql_parse.specs.RowStatements.{IsRowStatement}
use Rattle.sql_parse.specs.TableStatements.{IsTableStatement}
use Rattle.sql_parse.specs.UserStatements.{IsUserStatement}
use Rattle.sql_parse.specs.RightsStatements.{IsRightsStatement}
use Rattle.sql_parse.specs.PolicyStatements.{IsPolicyStatement}
use Rattle.sql_parse.specs.AuditStatements.{IsAuditStatement}
use Rattle.sql_parse.specs.CallStatements.{IsCallStatement}
use Rattle.sql_parse_admin.specs.declared.statements.Family.{Family}
use Rattle.sql_parse_admin.specs.declared.statements.Family.TheVariants as family

-- what CREATE and the next word create
unfoldable pub created : List Kind → Family
created i =
    if sees (Word (codes "TABLE")) i then family.Table else (if sees (Word (codes "USER")) i then family.User else (if sees (Word (codes "AUDIT")) i then family.Policy else family.Rights))

-- what ALTER and the next word alter
unfoldable pub altered : List Kind → Family
altered i = if sees (Word (codes "USER")) i then family.User else family.Rights

unfoldable pub family_of : List Kind → Family
family_of i =
    if sees (Word (codes "CREATE")) i then created (behind i) else (if sees (Word (codes "ALTER")) i then altered (behind i)
    else (if sees (Word (codes "DROP")) i then (if sees (Word (codes "AUDIT")) (behind i) then family.Audit else family.Rights)
    else (if sees (Word (codes "GRANT")) i then family.Rights else (if sees (Word (codes "REVOKE")) i then family.Rights
    else (if sees (Word (codes "AUDIT")) i then family.Audit else (if sees (Word (codes "NOAUDIT")) i then family.Audit
    else (if sees (Word (codes "BEGIN")) i then family.Call else (if sees (Word (codes "CALL")) i then family.Call else family.Rows))))))))

-- the tokens are this statement of the family
abbrev pub IsOf : Family → List ℕ → List Token → Statement → Type 0
IsOf family.Rows text ts x = IsRowStatement (kinds ts) x
IsOf family.Table text ts x = IsTableStatement (kinds ts) x
IsOf family.User text ts x = IsUserStatement text ts x
IsOf family.Rights text ts x = IsRightsStatement (kinds ts) x
IsOf family.Policy text ts x = IsPolicyStatement (kinds ts) x
IsOf family.Audit text ts x = IsAuditStatement (kinds ts) x
IsOf family.Call text ts x = IsCallStatement (kinds ts) x
