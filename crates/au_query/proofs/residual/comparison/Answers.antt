use Rattle.std.proofs.Common.{◌∙◌, ap₂}
use Rattle.au_expr.specs.Operators.{compare_value}
use Rattle.au_query.proofs.Cuts.{some_other}
use Rattle.au_query.proofs.residual.comparison.Goals as goal

pub returns-in-Some-side_of : goal.returns-in-Some-side_of
returns-in-Some-side_of c =
    some_other _ _
    (λ residual those session cells. ap₂ (compare_value c.args.relation) (c.in-Some.ensures session cells) (c.in-Some-side_of.ensures session cells) ∙ those cells)
    c.against_number.result c.against_number.ensures
