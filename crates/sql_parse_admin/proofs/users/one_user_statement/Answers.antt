use Rattle.sql_parse_admin.proofs.UserLaws.{one_way}
use Rattle.sql_parse_admin.proofs.users.one_user_statement.Goals as goal

pub returns : goal.returns
returns c = one_way
