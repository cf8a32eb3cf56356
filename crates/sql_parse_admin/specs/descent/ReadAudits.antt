-- Reading AUDIT, NOAUDIT and DROP AUDIT POLICY by descent: what each function of the code answers.
use Rattle.std.specs.Prelude.{ℕ, if◌then◌else◌, List, Option, Some, None, codes}
use Rattle.sql_lex.specs.declared.token.Kind.TheVariants.{Word}
use Rattle.sql_ast.specs.declared.administration.AuditedUsers.{AuditedUsers}
use Rattle.sql_ast.specs.declared.administration.AuditedUsers.TheVariants as audited
use Rattle.sql_ast.specs.declared.administration.Whenever.{Whenever}
use Rattle.sql_ast.specs.declared.administration.Whenever.TheVariants as whenever
use Rattle.sql_ast.specs.declared.statement.Statement.{Statement}
use Rattle.sql_ast.specs.declared.statement.Statement.TheVariants as statement
use Rattle.sql_parse.specs.Symbols.{sees}
use Rattle.sql_parse.specs.descent.Reading.{Reader, ◌>>=◌, under, behind, expect, name}
use Rattle.sql_parse.specs.descent.ReadTables.{clause, names}

abbrev pub by : List (List ℕ) → Option AuditedUsers
by ns = Some (audited.By ns)

abbrev pub except : List (List ℕ) → Option AuditedUsers
except ns = Some (audited.Except ns)

-- the users, if they are named
unfoldable pub users : Reader (Option AuditedUsers)
users i =
    if sees (Word (codes "BY")) i then under by (names (behind i)) else (if sees (Word (codes "EXCEPT")) i then under except (names (behind i)) else Some (None, i))

-- behind WHENEVER
unfoldable pub outcome : Reader Whenever
outcome i =
    if sees (Word (codes "NOT")) i then (expect (Word (codes "SUCCESSFUL")) (behind i) >>= λ o. Some (whenever.NotSuccessful, o))
    else (expect (Word (codes "SUCCESSFUL")) i >>= λ o. Some (whenever.Successful, o))

abbrev pub outcomes : Reader (Option Whenever)
outcomes = clause (Word (codes "WHENEVER")) outcome

-- POLICY and its name
unfoldable pub policy : Reader (List ℕ)
policy i = expect (Word (codes "POLICY")) i >>= λ j. name j

-- behind AUDIT
unfoldable pub audit : Reader Statement
audit i = policy i >>= λ p. users p.1 >>= λ u. under (λ w. statement.Audit (record { policy = p.0; users = u.0; whenever = w })) (outcomes u.1)

abbrev pub noaudit_users : Reader (Option (List (List ℕ)))
noaudit_users = clause (Word (codes "BY")) names

-- behind NOAUDIT
unfoldable pub noaudit : Reader Statement
noaudit i = policy i >>= λ p. under (λ ns. statement.Noaudit p.0 ns) (noaudit_users p.1)

unfoldable pub audit_statement : Reader Statement
audit_statement i =
    if sees (Word (codes "AUDIT")) i then audit (behind i) else (if sees (Word (codes "NOAUDIT")) i then noaudit (behind i)
    else (expect (Word (codes "DROP")) i >>= λ j. expect (Word (codes "AUDIT")) j >>= λ k. under statement.DropPolicy (policy k)))
