use Rattle.sql_parse.proofs.RowStatementLaws.{one_way}
use Rattle.sql_parse.proofs.row_statements.one_row_statement.Goals as goal

pub returns : goal.returns
returns c = one_way
