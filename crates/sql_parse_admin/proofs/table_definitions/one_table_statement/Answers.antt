use Rattle.sql_parse_admin.proofs.TableDefinitionLaws.{one_way}
use Rattle.sql_parse_admin.proofs.table_definitions.one_table_statement.Goals as goal

pub returns : goal.returns
returns c = one_way
