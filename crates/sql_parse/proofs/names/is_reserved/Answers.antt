use Rattle.sql_parse.proofs.ReservedLaws.{none_reserved}
use Rattle.sql_parse.proofs.names.is_reserved.Goals as goal

pub returns-in_default : goal.returns-in_default
returns-in_default c = none_reserved c.args.word.now c.in_default.len_below
