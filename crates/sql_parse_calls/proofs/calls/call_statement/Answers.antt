use Rattle.sql_parse.specs.Symbols.{kinds}
use Rattle.sql_parse_calls.proofs.CallLaws.{found}
use Rattle.sql_parse_calls.proofs.calls.call_statement.Goals as goal

pub returns : goal.returns
returns c = found (kinds c.args.tokens.now) (λ x. (x.0, kinds x.1.now)) c.statement.result c.whole.result c.statement.ensures c.whole.ensures
