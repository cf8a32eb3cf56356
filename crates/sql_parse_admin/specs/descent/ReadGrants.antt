-- Reading GRANT and REVOKE by descent: what each function of the code answers.
use Rattle.std.specs.Prelude.{ℕ, Bool, true, false, if◌then◌else◌, List, Some, codes}
use Rattle.au_base.specs.declared.grant.GrantStatement.{GrantStatement}
use Rattle.au_base.specs.declared.grant.GrantStatement.TheVariants as statement
use Rattle.au_base.specs.declared.grant.ObjectRight.{ObjectRight}
use Rattle.au_base.specs.declared.grant.Right.{Right}
use Rattle.au_base.specs.declared.table.TableReference.{TableReference}
use Rattle.sql_lex.specs.declared.token.Kind.TheVariants.{Word}
use Rattle.sql_parse.specs.Symbols.{sees, comma}
use Rattle.sql_parse.specs.descent.Reading.{Reader, ◌>>=◌, under, behind, expect, parted}
use Rattle.sql_parse.specs.descent.ReadTables.{names, table}
use Rattle.sql_parse_admin.specs.descent.ReadPrivileges.{is_object_right, object_right, right}

unfoldable pub rights : Reader (List Right)
rights = parted comma right

unfoldable pub object_rights : Reader (List ObjectRight)
object_rights = parted comma object_right

-- rights, and behind the word who gets or loses them
unfoldable pub rights_of : List ℕ → Reader (List Right × List (List ℕ))
rights_of w i = rights i >>= λ rs. expect (Word w) rs.1 >>= λ j. under (λ ns. (rs.0, ns)) (names j)

-- rights on a table, and behind the word who gets or loses them
unfoldable pub object_rights_of : List ℕ → Reader ((List ObjectRight × TableReference) × List (List ℕ))
object_rights_of w i =
    object_rights i >>= λ rs. expect (Word (codes "ON")) rs.1 >>= λ j. table j >>= λ t. expect (Word w) t.1 >>= λ m. under (λ ns. ((rs.0, t.0), ns)) (names m)

unfoldable pub admin_option : Reader Bool
admin_option i =
    if sees (Word (codes "WITH")) i then (expect (Word (codes "ADMIN")) (behind i) >>= λ j. expect (Word (codes "OPTION")) j >>= λ o. Some (true, o)) else Some (false, i)

abbrev pub on_table : (List ObjectRight × TableReference) × List (List ℕ) → GrantStatement
on_table x = statement.GrantObject x.0.0 x.0.1 x.1

abbrev pub off_table : (List ObjectRight × TableReference) × List (List ℕ) → GrantStatement
off_table x = statement.RevokeObject x.0.0 x.0.1 x.1

abbrev pub revoked : List Right × List (List ℕ) → GrantStatement
revoked x = statement.Revoke x.0 x.1

-- behind GRANT
unfoldable pub grant : Reader GrantStatement
grant i =
    if is_object_right i then under on_table (object_rights_of (codes "TO") i)
    else (rights_of (codes "TO") i >>= λ x. under (λ b. statement.Grant x.0.0 x.0.1 b) (admin_option x.1))

-- behind REVOKE
unfoldable pub revoke : Reader GrantStatement
revoke i = if is_object_right i then under off_table (object_rights_of (codes "FROM") i) else under revoked (rights_of (codes "FROM") i)
