use Rattle.std.proofs.Common.{◌∙◌, ◌++◌, ◌∷◌, [], ap, ap₂, sym}
use Rattle.au_expr.specs.Operators.{compare_value}
use Rattle.au_expr.specs.Placing.{value_at}
use Rattle.au_query.proofs.Cuts.{some_other}
use Rattle.au_query.proofs.Residuals.{comparison_value}
use Rattle.au_query.proofs.residual.residual_of.Goals as goal

pub returns-in-Compare : goal.returns-in-Compare
returns-in-Compare c =
    some_other _ _
    (λ residual those session cells.
    let rows = c.args.row.now ++ cells ∷ [] in
    ap (value_at rows session) c.in-Compare.is ∙ comparison_value rows session c.in-Compare.relation c.in-Compare.left c.in-Compare.right
    ∙ ap₂ (λ a b. compare_value c.in-Compare.relation (value_at rows session a) (value_at rows session b)) (sym c.get.ensures) (sym c.get-in-Compare.ensures) ∙ those session cells)
    c.comparison.result c.comparison.ensures
