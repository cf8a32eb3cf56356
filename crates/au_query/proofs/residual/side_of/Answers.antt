use Rattle.std.proofs.Common.{◌∙◌, ◌++◌, ◌∷◌, [], ap, sym}
use Rattle.au_expr.specs.Operators.{sum_value}
use Rattle.au_expr.specs.Placing.{signed_values_at, value_at}
use Rattle.au_query.proofs.Cuts.{some_other}
use Rattle.au_query.proofs.Residuals.{sum_is}
use Rattle.au_query.proofs.residual.side_of.Goals as goal

pub returns-in-Sum : goal.returns-in-Sum
returns-in-Sum c =
    some_other _ _
    (λ side those session cells.
    let rows = c.args.row.now ++ cells ∷ [] in
    ap (value_at rows session) c.in-Sum.is ∙ sum_is rows session c.in-Sum.parts
    ∙ ap (λ parts. sum_value (signed_values_at rows session parts)) (sym c.as_slice.ensures) ∙ those session cells)
    c.sum_side.result c.sum_side.ensures
