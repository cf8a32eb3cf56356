use Rattle.au_world.proofs.OneAnswer.{answered_alike, answered_once}
use Rattle.au_world.proofs.Statements.{kind_of}
use Rattle.au_world.proofs.laws.queries_have_one_answer.Goals as goal

pub returns-clause-one : goal.returns-clause-one
returns-clause-one c = λ sight session statement one other a b. answered_once c.replies_are_one.ensures sight session statement one other (kind_of statement) a b

pub returns-clause-same : goal.returns-clause-same
returns-clause-same c = λ a b session statement selected same is. answered_alike a b session statement selected (kind_of statement) same is
