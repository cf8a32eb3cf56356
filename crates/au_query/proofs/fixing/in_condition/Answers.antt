use Rattle.std.proofs.Common.{◌∙◌, ◌∷◌, [], ap, map, sym}
use Rattle.au_expr.specs.declared.placed.Placed.TheVariants as tree
use Rattle.au_expr.specs.Resolving.{placed}
use Rattle.au_query.specs.Fixed.{IsFixed}
use Rattle.au_query.proofs.Cuts.{placed_and, some_other}
use Rattle.au_query.proofs.Equalities.{and_fixed}
use Rattle.au_query.proofs.fixing.in_condition.Goals as goal

pub returns-in_ok-found-in-And : goal.returns-in_ok-found-in-And
returns-in_ok-found-in-And c =
    let session = c.args.session.now in
    let sought = c.args.sought.now in
    let place = placed sought.ranges.now in
    let parts = c.as_slice.result.now in
    let whole = ap place c.in-And.is ∙ placed_and sought.ranges.now c.in-And.parts ∙ ap (λ ps. tree.And (map place ps)) (sym c.as_slice.ensures) in
    some_other (IsFixed session (map place parts) sought.range sought.column) (IsFixed session (place c.args.condition.now ∷ []) sought.range sought.column)
    (λ cell fixed. and_fixed c.parts_of_and_are_met.ensures.trees session (map place parts) (place c.args.condition.now) sought.range sought.column cell whole fixed)
    c.in_ok-found-in-And.found c.in_ok-found-in-And.ensures
