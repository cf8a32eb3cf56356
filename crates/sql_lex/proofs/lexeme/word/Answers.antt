use Rattle.sql_lex.specs.Bytes.{is_word_byte}
use Rattle.sql_lex.proofs.Runs.{run_of}
use Rattle.sql_lex.proofs.Digits.{word_ascii}
use Rattle.sql_lex.proofs.lexeme.word.Goals as goal

pub from_ascii-requires : goal.from_ascii-requires
from_ascii-requires c =
    word_ascii c.split_word.result.0.now (rw c.split_word.ensures.front (run_of is_word_byte c.args.bytes.now).passes)
