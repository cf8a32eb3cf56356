use Rattle.std.specs.Prelude.{Ok, Err, Result, IfOk, List, ℕ, ◌≤◌, length, MatchResult}
use Rattle.au_base.specs.declared.code.Code.{Code}
use Rattle.au_base.specs.declared.limits.TheConstants.{STATEMENT_BYTES}
use Rattle.au_base.specs.declared.memory.Memory.{Memory}
use Rattle.sql_ast.specs.declared.statement.Statement.{Statement}
use Rattle.sql_lex.specs.declared.token.Token.{Token}
use Rattle.sql_lex.specs.Tokens.{AreTokens}
use Rattle.sql_parse.specs.Statements.{IsStatement, IsUnread, Reads, too_long, no_tokens}
use Rattle.sql_parse_admin.specs.descent.Unread.{HasCode}
use Rattle.sql_parse_admin.proofs.FamilyLaws.{of_text}
use Rattle.sql_parse_admin.proofs.statements.read.Goals as goal

go : (text : List ℕ) (ts : List Token) (result : Result (Result Statement Code) Memory) → length text ≤ STATEMENT_BYTES → AreTokens text ts
    → IfOk result (λ found. MatchResult found (IsStatement text ts) (HasCode text ts)) → IfOk result (λ found. MatchResult found (Reads text) (IsUnread text))
go text ts (Ok found) short cut h = of_text text ts found short cut h
go text ts (Err e) short cut h = tt

pub returns-then-text-gt-STATEMENT_BYTES : goal.returns-then-text-gt-STATEMENT_BYTES
returns-then-text-gt-STATEMENT_BYTES c = too_long c.if-text-gt-STATEMENT_BYTES.true

pub returns-in-Err : goal.returns-in-Err
returns-in-Err c =
    let stuck = rw c.in-Err.is at c.in_ok-tokens.ensures in
    no_tokens c.if-text-gt-STATEMENT_BYTES.false (λ ts. c.one_way.ensures.fault c.args.text.now _ ts stuck)

pub returns-in-Ok : goal.returns-in-Ok
returns-in-Ok c =
    let cut = rw c.in-Ok.is at c.in_ok-tokens.ensures in
    go c.args.text.now c.in-Ok.tokens.items c.statement_or_code.result c.if-text-gt-STATEMENT_BYTES.false cut (rw c.deref.ensures.value at c.statement_or_code.ensures)
