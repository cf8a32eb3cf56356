use Rattle.std.proofs.Common.{◌∙◌, ap}
use Rattle.au_expr.specs.Descent.{is_holds}
use Rattle.au_expr.specs.Placing.{value_at}
use Rattle.au_expr.proofs.Cells.{gives_no_truth}
use Rattle.au_expr.proofs.evaluate.value.Goals as goal

pub into_cell-requires : goal.into_cell-requires
into_cell-requires c =
    ap is_holds (c.evaluate.ensures ∙ ap (value_at c.args.row.now c.args.session.now) c.tree.ensures)
    ∙ gives_no_truth c.args.row.now c.args.session.now c.args.expr.now c.requires
