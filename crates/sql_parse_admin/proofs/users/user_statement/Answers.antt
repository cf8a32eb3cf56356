use Rattle.sql_parse_admin.proofs.UserLaws.{found}
use Rattle.sql_parse_admin.proofs.users.user_statement.Goals as goal

pub returns : goal.returns
returns c = found c.args.text.now c.args.tokens.now (λ x. (x.0, x.1.now)) c.user.result c.whole.result c.user.ensures c.whole.ensures
