use Rattle.std.proofs.Common.{[], arith, sym, subst}
use Rattle.std.proofs.lemmas.List.{append-nil, drop_all}
use Rattle.au_query.specs.Fixed.{AreFixed}
use Rattle.au_query.specs.descent.Inside.{trees_of_conditions}
use Rattle.au_query.proofs.fixing.all_fixed.Goals as goal

pub returns : goal.returns
returns c =
    let columns = c.args.columns.now in
    let are = AreFixed c.args.session.now (trees_of_conditions c.args.conditions.now) c.args.range in
    subst (are columns) (append-nil c.loop-column.cells.items)
    (c.loop-column.invariant [] (subst (λ rest. are rest []) (sym (drop_all c.loop-column.column-index columns (omega (arith, c.loop-column-test.false)))) tt))
