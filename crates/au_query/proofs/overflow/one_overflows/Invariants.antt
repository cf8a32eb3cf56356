use Rattle.std.proofs.Common.{◌≡◌, drop}
use Rattle.std.specs.List.{list_any}
use Rattle.au_expr.specs.Values.{is_overflow}
use Rattle.au_query.specs.descent.Inside.{cells_in}
use Rattle.au_query.specs.descent.Residuals.{residual_value}
use Rattle.au_query.proofs.overflow.one_overflows.Given as goal

abbrev pub invariant-loop-cells : goal.invariant-loop-cells
invariant-loop-cells l =
    let each = list_any (λ cells. is_overflow (residual_value l.residual cells)) in
    each (cells_in (drop l.cells-index l.rows)) ≡ each (cells_in l.rows)
