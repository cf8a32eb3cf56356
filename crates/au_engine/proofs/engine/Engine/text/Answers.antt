use Rattle.std.proofs.Common.{inr, subst}
use Rattle.std.specs.Prelude.{MatchResult, Result}
use Rattle.au_base.specs.declared.code.Code.{Code}
use Rattle.sql_ast.specs.declared.statement.Statement.{Statement}
use Rattle.sql_parse.specs.Statements.{IsUnread, Reads}
use Rattle.au_engine.proofs.engine.Engine.text.Goals as goal

pub returns-in-Err-clause-step : goal.returns-in-Err-clause-step
returns-in-Err-clause-step g c =
    let text = c.args.text.now in
    let is = subst (λ (r : Result Statement Code). MatchResult r (Reads text) (IsUnread text)) c.in-Err.is c.requires.read in
    inr (c.in-Err.code, is, c.unchanged.ensures.step)
