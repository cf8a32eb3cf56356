use Rattle.sql_lex.proofs.Lexemes.{token_sound, no_token}
use Rattle.sql_lex.proofs.lexeme.token_at.Goals as goal

pub returns-in-Some : goal.returns-in-Some
returns-in-Some c = token_sound c.args.bytes.now _ (rw c.in-Some.is at c.in_ok-kind.ensures)

pub returns-in-None : goal.returns-in-None
returns-in-None c = no_token c.args.bytes.now (rw c.in-None.is at c.in_ok-kind.ensures)
