use Rattle.au_expr.proofs.KindKept.{as_condition}
use Rattle.au_expr.proofs.resolved.resolve_condition.Goals as goal

pub returns-in_ok-tree-in-None : goal.returns-in_ok-tree-in-None
returns-in_ok-tree-in-None c = as_condition c.args.ranges.now c.args.expr.now c.in_ok-tree-in-None.tree c.in-None.ensures c.in_ok-tree-in-None.ensures
