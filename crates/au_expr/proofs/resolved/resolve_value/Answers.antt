use Rattle.au_expr.proofs.KindKept.{as_value}
use Rattle.au_expr.proofs.resolved.resolve_value.Goals as goal

pub returns-in_ok-tree-in-None : goal.returns-in_ok-tree-in-None
returns-in_ok-tree-in-None c = as_value c.args.wanted c.args.ranges.now c.args.expr.now c.in_ok-tree-in-None.tree c.in-None.ensures c.in_ok-tree-in-None.ensures
