use Rattle.std.proofs.Common.{◌∙◌, ◌++◌, ap, map, sym, subst}
use Rattle.std.specs.Option.{option_to_list}
use Rattle.au_expr.specs.Resolving.{placed}
use Rattle.au_query.specs.Fixed.{NeverOverflows}
use Rattle.au_query.proofs.Equalities.{never, not_false}
use Rattle.au_query.proofs.fixing.where_never_overflows.Goals as goal

pub returns-in-Ok : goal.returns-in-Ok
returns-in-Ok c = λ holds session.
    let found = rw c.in-Ok.is at c.in_ok-conditions.ensures in
    let ranges = ap (λ ranges. map (placed ranges) (option_to_list c.args.condition.now)) c.from_ref.ensures.value in
    let none = sym c.can_one_overflow.ensures ∙ not_false c.can_one_overflow.result holds in
    subst (NeverOverflows session) (c.as_slice.ensures.value ∙ found.1 ∙ ap (λ items. items ++ map (placed c.from_ref.result.now) (option_to_list c.args.condition.now)) c.new.ensures.items ∙ ranges) (never c.no_overflow_where_none_can.ensures c.as_slice.result.now none session)
