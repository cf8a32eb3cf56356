-- Reading the statements that change rows by descent: what each function of the code answers.
use Rattle.std.specs.Prelude.{ℕ, List, Option, codes}
use Rattle.sql_lex.specs.declared.token.Kind.{Kind}
use Rattle.sql_lex.specs.declared.token.Kind.TheVariants.{Word}
use Rattle.sql_ast.specs.declared.expression.Expr.{Expr}
use Rattle.sql_ast.specs.declared.rows.Assignment.{Assignment}
use Rattle.sql_ast.specs.declared.rows.Delete.{Delete}
use Rattle.sql_ast.specs.declared.rows.Insert.{Insert}
use Rattle.sql_ast.specs.declared.rows.Update.{Update}
use Rattle.sql_parse.specs.Symbols.{opening, comma, equal}
use Rattle.sql_parse.specs.descent.Reading.{Reader, ◌>>=◌, under, expect, parted, name, sum, cond}
use Rattle.sql_parse.specs.descent.ReadTables.{clause, closed, names, past, table}

-- the columns of an INSERT, if they are listed
unfoldable pub columns : Reader (Option (List (List ℕ)))
columns = clause opening (closed names)

module _ (inner : List Kind → Option (Expr × List Kind)) where
  abbrev pub filter : Reader (Option Expr)
  filter = clause (Word (codes "WHERE")) (cond inner)

  -- behind the opening parenthesis
  unfoldable pub values : Reader (List Expr)
  values = closed (parted comma (sum inner))

  -- behind INSERT
  unfoldable pub insert : Reader Insert
  insert i =
      expect (Word (codes "INTO")) i >>= λ j. table j >>= λ t. columns t.1 >>= λ ns. expect (Word (codes "VALUES")) ns.1 >>= λ m. expect opening m >>= λ n.
      under (λ xs. record { table = t.0; columns = ns.0; values = xs }) (values n)

  unfoldable pub assignment : Reader Assignment
  assignment i = name i >>= λ n. expect equal n.1 >>= λ j. under (λ x. record { column = n.0; value = x }) (sum inner j)

  unfoldable pub assignments : Reader (List Assignment)
  assignments = parted comma assignment

  -- behind UPDATE
  unfoldable pub update : Reader Update
  update i =
      table i >>= λ t. expect (Word (codes "SET")) t.1 >>= λ j. assignments j >>= λ xs. under (λ c. record { table = t.0; assignments = xs.0; condition = c }) (filter xs.1)

  -- behind DELETE
  unfoldable pub delete : Reader Delete
  delete i = table (past (Word (codes "FROM")) i) >>= λ t. under (λ c. record { table = t.0; condition = c }) (filter t.1)
