use Rattle.sql_parse_admin.proofs.FamilyLaws.{one_text, one_code, read_apart}
use Rattle.sql_parse_admin.proofs.statements.one_reading.Goals as goal

pub returns-clause-statement : goal.returns-clause-statement
returns-clause-statement c = λ text. one_text c.one_statement.ensures text (c.one_way.ensures.tokens text)

pub returns-clause-code : goal.returns-clause-code
returns-clause-code c = λ text. one_code text (c.one_way.ensures.tokens text)

pub returns-clause-apart : goal.returns-clause-apart
returns-clause-apart c = λ text. read_apart text (c.one_way.ensures.tokens text)
