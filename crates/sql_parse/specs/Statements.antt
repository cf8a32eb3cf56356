-- Which statement a text is, and the code of one that is none (SQL Language Reference, "SQL Statements"; the lengths, the
-- depth and the codes are this project's profile).
use Rattle.std.specs.Prelude.{◌≡◌, ◌<◌, ◌≤◌, ℕ, true, false, List, length}
use Rattle.au_base.specs.declared.code.Code.{Code}
use Rattle.au_base.specs.Codes.{NOT_READ, STATEMENT_TOO_LONG, TOO_DEEP}
use Rattle.au_base.specs.Limits.{STATEMENT_BYTES}
use Rattle.sql_lex.specs.declared.token.Token.{Token}
use Rattle.sql_lex.specs.Tokens.{AreTokens}
use Rattle.sql_ast.specs.declared.statement.Statement.{Statement}
use Rattle.sql_parse.specs.Symbols.{kinds}
use Rattle.sql_parse.specs.Conditions.{opens_few}
use Rattle.sql_parse.specs.RowStatements.{IsRowStatement}
use Rattle.sql_parse.specs.RightsStatements.{IsRightsStatement}
use Rattle.sql_parse.specs.AuditStatements.{IsAuditStatement}
use Rattle.sql_parse.specs.UserStatements.{IsUserStatement}
use Rattle.sql_parse.specs.TableStatements.{IsTableStatement}
use Rattle.sql_parse.specs.PolicyStatements.{IsPolicyStatement}
use Rattle.sql_parse.specs.CallStatements.{IsCallStatement}

-- The tokens of the text are this statement, with `;` behind it or without, and no more than 100 parentheses are open at
-- once. The text itself is asked for passwords alone.
pub data IsStatement (text : List ℕ) (ts : List Token) (x : Statement) : Type 0 where
  rows : IsRowStatement (kinds ts) x → IsStatement text ts x
  table : IsTableStatement (kinds ts) x → IsStatement text ts x
  user : IsUserStatement text ts x → IsStatement text ts x
  rights : IsRightsStatement (kinds ts) x → IsStatement text ts x
  policy : IsPolicyStatement (kinds ts) x → IsStatement text ts x
  audit : IsAuditStatement (kinds ts) x → IsStatement text ts x
  call : IsCallStatement (kinds ts) x → IsStatement text ts x

-- the text isn't too long, and its tokens are the statement
pub record Reads (text : List ℕ) (x : Statement) : Type 0 where
  pub short : length text ≤ STATEMENT_BYTES
  pub tokens : List Token
  pub cut : AreTokens text tokens
  pub statement : IsStatement text tokens x

-- The text is no statement, with the code of the first that is so: it is too long; it isn't cut into tokens; it opens too
-- many parentheses at once; its tokens are no statement.
pub data IsUnread (text : List ℕ) : Code → Type 0 where
  too_long : STATEMENT_BYTES < length text → IsUnread text STATEMENT_TOO_LONG
  no_tokens : length text ≤ STATEMENT_BYTES → ((ts : List Token) → ¬ (AreTokens text ts)) → IsUnread text NOT_READ
  too_deep : {ts : List Token} → length text ≤ STATEMENT_BYTES → AreTokens text ts → opens_few 0 (kinds ts) ≡ false → IsUnread text TOO_DEEP
  no_statement : {ts : List Token} → length text ≤ STATEMENT_BYTES → AreTokens text ts → opens_few 0 (kinds ts) ≡ true → ((x : Statement) → ¬ (IsStatement text ts x)) → IsUnread text NOT_READ
