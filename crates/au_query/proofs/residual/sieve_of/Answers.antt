use Rattle.std.proofs.Common.{◌∙◌, ◌++◌, ◌∷◌, [], ap}
use Rattle.au_expr.specs.Placing.{value_at}
use Rattle.au_expr.specs.Values.{is_met}
use Rattle.au_query.proofs.Residuals.{one_fails}
use Rattle.au_query.proofs.residual.sieve_of.Goals as goal

pub returns-in-Some : goal.returns-in-Some
returns-in-Some c = λ session cells unmet.
    let rows = c.args.row.now ++ cells ∷ [] in
    one_fails (λ tree. is_met (value_at rows session tree)) c.args.tests.now c.loop-test.test-index c.test-item.result c.loop-test-test.true c.test-item.is
    (ap is_met (c.in-Some.ensures session cells) ∙ unmet)
