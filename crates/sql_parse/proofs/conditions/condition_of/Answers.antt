use Rattle.sql_parse.specs.Symbols.{kinds}
use Rattle.sql_parse.proofs.ConditionLaws.{condition_is, no_condition}
use Rattle.sql_parse.proofs.conditions.condition_of.Goals as goal

pub returns-in-Ok : goal.returns-in-Ok
returns-in-Ok c = condition_is (kinds c.args.tokens.now) _ c.in-Ok.ensures

pub returns-in-Err-Unread : goal.returns-in-Err-Unread
returns-in-Err-Unread c = no_condition (kinds c.args.tokens.now) (rw c.in-Err-Unread.field-0-is at c.in-Err-Unread.ensures)
