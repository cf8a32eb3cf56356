use Rattle.au_expr.proofs.Under.{front_suffices, names_there}
use Rattle.au_expr.proofs.laws.later_ranges_dont_matter.Goals as goal

pub returns-clause-there : goal.returns-clause-there
returns-clause-there c ranges range x named = names_there ranges range x named

pub returns-clause-same : goal.returns-clause-same
returns-clause-same c ranges front more session x long = front_suffices ranges front more session x long
