use Rattle.sql_parse.proofs.TreeLaws.{none_tree, some_tree, tree_given}
use Rattle.sql_parse.proofs.conditions.tree_is_condition.Goals as goal

pub returns-clause-some : goal.returns-clause-some
returns-clause-some c = some_tree c.cut_as_told.ensures.some

pub returns-clause-none : goal.returns-clause-none
returns-clause-none c = none_tree c.cut_as_told.ensures.some

pub returns-clause-tree : goal.returns-clause-tree
returns-clause-tree c = tree_given c.cut_as_told.ensures.some
