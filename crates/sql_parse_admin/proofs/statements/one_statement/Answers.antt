use Rattle.std.specs.Prelude.{◌≡◌, List, ℕ}
use Rattle.sql_ast.specs.declared.statement.Statement.{Statement}
use Rattle.sql_lex.specs.declared.token.Token.{Token}
use Rattle.sql_parse.specs.Symbols.{kinds}
use Rattle.sql_parse_admin.specs.declared.statements.Family.{Family}
use Rattle.sql_parse_admin.specs.declared.statements.Family.TheVariants as family
use Rattle.sql_parse_admin.specs.descent.Families.{IsOf, family_of}
use Rattle.sql_parse_admin.proofs.FamilyLaws.{of_family}
use Rattle.sql_parse_admin.proofs.statements.one_statement.Goals as goal

pub returns : goal.returns
returns c = λ text ts x y s t. one text ts x y (family_of (kinds ts)) (of_family text ts x s) (of_family text ts y t)
  where
    one : (text : List ℕ) (ts : List Token) (x y : Statement) (f : Family) → IsOf f text ts x → IsOf f text ts y → x ≡ y
    one text ts x y family.Rows s t = c.one_row_statement.ensures (kinds ts) x y s t
    one text ts x y family.Table s t = c.one_table_statement.ensures (kinds ts) x y s t
    one text ts x y family.User s t = c.one_user_statement.ensures text ts x y s t
    one text ts x y family.Rights s t = c.one_rights_statement.ensures (kinds ts) x y s t
    one text ts x y family.Policy s t = c.one_policy_statement.ensures (kinds ts) x y s t
    one text ts x y family.Audit s t = c.one_audit_statement.ensures (kinds ts) x y s t
    one text ts x y family.Call s t = c.one_call_statement.ensures (kinds ts) x y s t
