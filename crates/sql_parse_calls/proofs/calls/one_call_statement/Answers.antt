use Rattle.sql_parse_calls.proofs.CallLaws.{one_way}
use Rattle.sql_parse_calls.proofs.calls.one_call_statement.Goals as goal

pub returns : goal.returns
returns c = one_way
