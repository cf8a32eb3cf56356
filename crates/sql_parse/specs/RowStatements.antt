-- What a row statement is (SQL Language Reference, "SQL Statements"; the choice of rules is this project's profile).
use Rattle.std.specs.Prelude.{List, ◌∷◌, codes}
use Rattle.sql_lex.specs.declared.token.Kind.{Kind}
use Rattle.sql_lex.specs.declared.token.Kind.TheVariants.{Word}
use Rattle.sql_ast.specs.declared.expression.Expr.{Expr}
use Rattle.sql_ast.specs.declared.query.Count.{Count}
use Rattle.sql_ast.specs.declared.query.Select.{Select}
use Rattle.sql_ast.specs.declared.rows.Delete.{Delete}
use Rattle.sql_ast.specs.declared.rows.Insert.{Insert}
use Rattle.sql_ast.specs.declared.rows.Update.{Update}
use Rattle.sql_ast.specs.declared.statement.Statement.{Statement}
use Rattle.sql_ast.specs.declared.statement.Statement.TheVariants as statement
use Rattle.sql_parse.specs.Rules.{Maybe}
use Rattle.sql_parse.specs.Expressions.{Within}
use Rattle.sql_parse.specs.Changes.{IsDelete, IsInsert, IsUpdate}
use Rattle.sql_parse.specs.Queries.{IsCount, IsSelect}
use Rattle.sql_parse.specs.Whole.{Whole}

-- `Inner` is the rule of a condition within parentheses.
module _ (Inner : List Kind → Expr → List Kind → Type 0) where
  -- Commit = COMMIT [WORK]    Rollback = ROLLBACK [WORK]
  pub data RowStatement : List Kind → Statement → List Kind → Type 0 where
    selects : {i o : List Kind} {x : Select} → IsSelect Inner i x o → RowStatement i (statement.Select x) o
    counts : {i o : List Kind} {x : Count} → IsCount Inner i x o → RowStatement i (statement.Count x) o
    inserts : {i o : List Kind} {x : Insert} → IsInsert Inner i x o → RowStatement i (statement.Insert x) o
    updates : {i o : List Kind} {x : Update} → IsUpdate Inner i x o → RowStatement i (statement.Update x) o
    deletes : {i o : List Kind} {x : Delete} → IsDelete Inner i x o → RowStatement i (statement.Delete x) o
    commits : {i o : List Kind} → Maybe (Word (codes "WORK")) i o → RowStatement (Word (codes "COMMIT") ∷ i) statement.Commit o
    rolls_back : {i o : List Kind} → Maybe (Word (codes "WORK")) i o → RowStatement (Word (codes "ROLLBACK") ∷ i) statement.Rollback o

-- the tokens are this row statement, with `;` behind it or without, however deep it nests
abbrev pub IsRowStatement : List Kind → Statement → Type 0
IsRowStatement = Whole (λ ks. ks) (λ depth. RowStatement (Within depth))
