use Rattle.std.proofs.Common.{◌∙◌, ◌++◌, ap₂, sym, subst}
use Rattle.au_query.specs.Fixed.{NeverOverflows}
use Rattle.au_query.specs.descent.Outputs.{trees_in}
use Rattle.au_query.proofs.Equalities.{never, not_false}
use Rattle.au_query.proofs.fixing.never_overflows.Goals as goal

pub returns-in-Ok : goal.returns-in-Ok
returns-in-Ok c = λ holds session.
    let plan = c.in-Ok.plan in
    let found = rw c.in-Ok.is at c.in_ok-plan.ensures in
    let none = sym c.can_plan_overflow.ensures ∙ not_false c.can_plan_overflow.result holds in
    subst (NeverOverflows session) (ap₂ (λ a b. a ++ b) found.1.conditions found.1.items) (never c.no_overflow_where_none_can.ensures (plan.conditions.items ++ trees_in plan.outputs.items) none session)
