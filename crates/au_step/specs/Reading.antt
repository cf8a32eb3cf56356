-- What the text of an ask is read as (SQL Language Reference, "SQL Statements").
use Rattle.std.specs.Prelude.{ℕ, List, Result, MatchResult}
use Rattle.au_base.specs.declared.ask.Ask.{Ask}
use Rattle.au_base.specs.declared.ask.Ask.TheVariants.{Local, Logon, Sql, Logoff}
use Rattle.au_base.specs.declared.code.Code.{Code}
use Rattle.au_audit.specs.Statements.{IsPlaced}
use Rattle.au_ruling.specs.Sound.{IsSoundStatement}
use Rattle.sql_ast.specs.declared.statement.Statement.{Statement}
use Rattle.sql_parse.specs.Statements.{IsUnread, Reads}

-- The text is this statement. Its names are names, its numbers are in their ranges and its texts are text, and its password,
-- where it has one, stands in the text, as in each that a text is read as.
pub record ReadsSoundly (text : List ℕ) (statement : Statement) : Type 0 where
  pub reads : Reads text statement
  pub sound : IsSoundStatement statement
  pub placed : IsPlaced text statement

-- this is what the text is read as
abbrev pub IsReadAs : List ℕ → Result Statement Code → Type 0
IsReadAs text read = MatchResult read (Reads text) (IsUnread text)

-- this is what the text of the ask is read as, where it has one
abbrev pub IsReadOf : Ask → Result Statement Code → Type 0
IsReadOf (Sql text) read = IsReadAs text read
IsReadOf Local read = Unit {0}
IsReadOf (Logon user password) read = Unit {0}
IsReadOf Logoff read = Unit {0}
