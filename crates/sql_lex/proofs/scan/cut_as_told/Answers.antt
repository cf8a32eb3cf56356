use Rattle.sql_lex.proofs.Cutting.{no_tokens, some_tokens}
use Rattle.sql_lex.proofs.scan.cut_as_told.Goals as goal

pub returns-clause-some : goal.returns-clause-some
returns-clause-some c = some_tokens

pub returns-clause-none : goal.returns-clause-none
returns-clause-none c = no_tokens
