use Rattle.sql_parse_admin.proofs.PolicyLaws.{one_way}
use Rattle.sql_parse_admin.proofs.policies.one_policy_statement.Goals as goal

pub returns : goal.returns
returns c = one_way
