-- Reading row statements by descent: what each function of the code answers.
use Rattle.std.specs.Prelude.{if◌then◌else◌, List, Option, Some, None, codes}
use Rattle.sql_lex.specs.declared.token.Kind.{Kind}
use Rattle.sql_lex.specs.declared.token.Kind.TheVariants.{Word}
use Rattle.sql_ast.specs.declared.expression.Expr.{Expr}
use Rattle.sql_ast.specs.declared.statement.Statement.{Statement}
use Rattle.sql_ast.specs.declared.statement.Statement.TheVariants as statement
use Rattle.sql_parse.specs.Symbols.{sees, semicolon}
use Rattle.sql_parse.specs.descent.Reading.{Reader, under, behind}
use Rattle.sql_parse.specs.descent.ReadTables.{past}
use Rattle.sql_parse.specs.descent.ReadChanges.{delete, insert, update}
use Rattle.sql_parse.specs.descent.ReadQueries.{count, counts, select}

-- past the `;`, if one comes next
abbrev pub past_end : {A : Type 0} → Option (A × List Kind) → Option (A × List Kind)
past_end None = None
past_end (Some x) = Some (x.0, past semicolon x.1)

module _ (inner : List Kind → Option (Expr × List Kind)) where
  -- behind SELECT
  unfoldable pub query : Reader Statement
  query i = if counts i then under statement.Count (count inner (behind (behind i))) else under statement.Select (select inner i)

  abbrev pub change : Reader Statement
  change i =
      if sees (Word (codes "INSERT")) i then under statement.Insert (insert inner (behind i)) else (if sees (Word (codes "UPDATE")) i then under statement.Update (update inner (behind i))
      else (if sees (Word (codes "DELETE")) i then under statement.Delete (delete inner (behind i)) else None))

  unfoldable pub row_statement : Reader Statement
  row_statement i =
      if sees (Word (codes "SELECT")) i then query (behind i) else (if sees (Word (codes "COMMIT")) i then Some (statement.Commit, past (Word (codes "WORK")) (behind i))
      else (if sees (Word (codes "ROLLBACK")) i then Some (statement.Rollback, past (Word (codes "WORK")) (behind i)) else change i))
