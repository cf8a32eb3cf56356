use Rattle.std.proofs.Common.{arith, subst}
use Rattle.std.specs.Prelude.{IfOk, IfSome}
use Rattle.au_query.specs.descent.Residuals.{AreLeft}
use Rattle.au_query.proofs.Residuals.{lone_list}
use Rattle.au_query.proofs.counting.comparisons.Goals as goal

pub returns-in-len1 : goal.returns-in-len1
returns-in-len1 c =
    subst (λ z. IfOk c.comparisons_in.result (λ found. IfSome found (λ residuals. AreLeft z residuals.items)))
    (lone_list c.args.conditions.now c.condition-item.result (omega (arith, c.in-len1.len_at_least, c.in-len1.len_below)) c.condition-item.is)
    c.comparisons_in.ensures
