use Rattle.au_world.proofs.OnePlan.{plan_refused, planned_alike, planned_once}
use Rattle.au_world.proofs.laws.plans_hold.Goals as goal

pub returns-clause-one : goal.returns-clause-one
returns-clause-one c = λ truth sight session statement one other a b. planned_once c.replies_are_one.ensures c.rights_have_one_answer.ensures truth sight session statement one other a b

pub returns-clause-refused : goal.returns-clause-refused
returns-clause-refused c = λ truth sight session statement plan is not_done. plan_refused truth sight session statement plan is not_done

pub returns-clause-same : goal.returns-clause-same
returns-clause-same c = λ truth a b session statement plan same is. planned_alike truth a b session statement plan same is
