use Rattle.sql_parse_admin.proofs.PasswordLaws.{placed}
use Rattle.sql_parse_admin.proofs.passwords.passwords_are_placed.Goals as goal

pub returns : goal.returns
returns c = placed
