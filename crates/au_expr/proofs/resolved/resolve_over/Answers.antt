use Rattle.au_expr.proofs.KindKept.{resolved_from}
use Rattle.au_expr.proofs.resolved.resolve_over.Goals as goal

pub returns-in_ok-tree-in-Ok : goal.returns-in_ok-tree-in-Ok
returns-in_ok-tree-in-Ok c =
    resolved_from c.args.ranges.now c.args.expr.now c.in_ok-tree-in-Ok.tree c.in-Ok.field-0 c.in-Ok.ensures.0 c.in-Ok.ensures.1 c.in_ok-tree-in-Ok.ensures
