use Rattle.sql_parse.specs.Symbols.{kinds}
use Rattle.sql_parse.proofs.RowStatementLaws.{too_many}
use Rattle.sql_parse.proofs.row_statements.row_statement.Goals as goal

pub returns-then-not-opens_few : goal.returns-then-not-opens_few
returns-then-not-opens_few c = too_many (kinds c.args.tokens.now) (cc)
