use Rattle.sql_parse_admin.proofs.StatementLaws.{one_way}
use Rattle.sql_parse_admin.proofs.rights_statements.one_rights_statement.Goals as goal

pub returns : goal.returns
returns c = one_way
