use Rattle.std.proofs.Common.{◌∙◌, ◌++◌, ◌∷◌, [], ap, sym}
use Rattle.au_expr.specs.Operators.{sign_value}
use Rattle.au_expr.specs.Placing.{value_at}
use Rattle.au_query.proofs.Cuts.{some_other}
use Rattle.au_query.proofs.Residuals.{sign_is}
use Rattle.au_query.proofs.residual.plain_side.Goals as goal

pub returns-in-Negate : goal.returns-in-Negate
returns-in-Negate c =
    some_other _ _
    (λ side those session cells.
    let rows = c.args.row.now ++ cells ∷ [] in
    ap (value_at rows session) c.in-Negate.is ∙ sign_is rows session c.in-Negate.part
    ∙ ap (λ t. sign_value (value_at rows session t)) (sym c.get.ensures) ∙ those session cells)
    c.negated_side.result c.negated_side.ensures
