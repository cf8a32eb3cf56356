use Rattle.sql_lex.specs.Bytes.{is_digit}
use Rattle.sql_lex.proofs.Runs.{run_of}
use Rattle.sql_lex.proofs.lexeme.number.Goals as goal

pub value_of-requires : goal.value_of-requires
value_of-requires c = rw c.split_digits.ensures.front (run_of is_digit c.args.bytes.now).passes
