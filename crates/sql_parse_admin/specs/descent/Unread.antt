-- The code of tokens that are no statement.
use Rattle.std.specs.Prelude.{◌≡◌, ℕ, true, false, List}
use Rattle.au_base.specs.declared.code.Code.{Code}
use Rattle.au_base.specs.Codes.{NOT_READ, TOO_DEEP}
use Rattle.sql_lex.specs.declared.token.Token.{Token}
use Rattle.sql_ast.specs.declared.statement.Statement.{Statement}
use Rattle.sql_parse.specs.Symbols.{kinds}
use Rattle.sql_parse.specs.Conditions.{opens_few}
use Rattle.sql_parse.specs.Statements.{IsStatement}

-- they open too many parentheses at once, or else they are no statement
pub data HasCode (text : List ℕ) (ts : List Token) : Code → Type 0 where
  too_deep : opens_few 0 (kinds ts) ≡ false → HasCode text ts TOO_DEEP
  no_statement : opens_few 0 (kinds ts) ≡ true → ((x : Statement) → ¬ (IsStatement text ts x)) → HasCode text ts NOT_READ
