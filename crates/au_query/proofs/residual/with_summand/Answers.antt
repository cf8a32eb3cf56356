use Rattle.std.proofs.Common.{◌∙◌, ap}
use Rattle.au_expr.specs.Operators.{added}
use Rattle.au_query.specs.descent.Residuals.{side_value}
use Rattle.au_query.proofs.Cuts.{some_other}
use Rattle.au_query.proofs.residual.with_summand.Goals as goal

pub returns-in-Some : goal.returns-in-Some
returns-in-Some c =
    some_other _ _
    (λ longer those session cells. ap (added c.args.minus (side_value c.args.side cells)) (c.in-Some.ensures session cells) ∙ those cells)
    c.with_side.result c.with_side.ensures
