use Rattle.std.proofs.Common.{◌∙◌, ap}
use Rattle.au_expr.specs.Operators.{sign_value}
use Rattle.au_query.proofs.Cuts.{some_other}
use Rattle.au_query.proofs.residual.negated_side.Goals as goal

pub returns-in-Some : goal.returns-in-Some
returns-in-Some c =
    some_other _ _
    (λ negated those session cells. ap sign_value (c.in-Some.ensures session cells) ∙ those cells)
    c.with_side.result c.with_side.ensures
