use Rattle.sql_parse.specs.Symbols.{kinds}
use Rattle.sql_parse_admin.proofs.PolicyLaws.{found}
use Rattle.sql_parse_admin.proofs.policies.policy_statement.Goals as goal

pub returns : goal.returns
returns c = found (kinds c.args.tokens.now) (λ x. (x.0, kinds x.1.now)) c.policy.result c.whole.result c.policy.ensures c.whole.ensures
