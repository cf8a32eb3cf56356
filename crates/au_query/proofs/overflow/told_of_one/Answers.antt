use Rattle.std.proofs.Common.{◌∙◌}
use Rattle.au_query.specs.descent.Inside.{cells_in}
use Rattle.au_query.proofs.Residuals.{residual_overflows}
use Rattle.au_query.proofs.overflow.told_of_one.Goals as goal

pub returns-in-Some : goal.returns-in-Some
returns-in-Some c = λ session.
    c.one_overflows.ensures ∙ residual_overflows session c.args.row.now (cells_in c.args.rows.now) c.args.tree.now c.in-Some.residual c.in-Some.ensures
