use Rattle.au_expr.specs.Names.{places}
use Rattle.au_expr.proofs.Looking.{none_is, one_is, several_are}
use Rattle.au_expr.proofs.lookup.column_place.Goals as goal

pub returns-in-One : goal.returns-in-One
returns-in-One c = one_is (places c.args.ranges.now c.args.written.now c.args.name.now) c.in-One.place c.in-One.ensures

pub returns-in-Nothing : goal.returns-in-Nothing
returns-in-Nothing c = none_is (places c.args.ranges.now c.args.written.now c.args.name.now) c.in-Nothing.ensures

pub returns-in-Several : goal.returns-in-Several
returns-in-Several c = several_are (places c.args.ranges.now c.args.written.now c.args.name.now) c.in-Several.ensures
