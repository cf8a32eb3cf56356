use Rattle.au_expr.proofs.Meeting.{met, met_trees}
use Rattle.au_expr.proofs.laws.parts_of_and_are_met.Goals as goal

pub returns-clause-values : goal.returns-clause-values
returns-clause-values c parts = met parts

pub returns-clause-trees : goal.returns-clause-trees
returns-clause-trees c parts session rows = met_trees parts session rows
