use Rattle.sql_parse.proofs.ConditionLaws.{one_way}
use Rattle.sql_parse.proofs.conditions.one_condition.Goals as goal

pub returns : goal.returns
returns c = λ text x y. one_way text x y (c.one_way.ensures.tokens text)
