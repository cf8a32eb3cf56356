use Rattle.std.proofs.Common.{◌≡◌, ◌++◌, ◌∷◌, [], List, drop}
use Rattle.au_base.specs.declared.cell.Cell.{Cell}
use Rattle.au_expr.specs.Operators.{sum_from, sum_value}
use Rattle.au_expr.specs.Placing.{signed_values_at}
use Rattle.au_expr.specs.Sessions.{Session}
use Rattle.au_query.specs.descent.Residuals.{side_value}
use Rattle.au_query.proofs.residual.sum_side.Given as goal

abbrev pub invariant-loop-minus : goal.invariant-loop-minus
invariant-loop-minus l = (session : Session) (cells : List Cell)
    → sum_from (side_value l.side cells) (signed_values_at (l.row ++ cells ∷ []) session (drop l.minus-index l.parts)) ≡ sum_value (signed_values_at (l.row ++ cells ∷ []) session l.parts)
