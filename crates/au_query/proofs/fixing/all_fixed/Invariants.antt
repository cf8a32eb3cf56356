use Rattle.std.proofs.Common.{◌++◌, drop, List}
use Rattle.au_base.specs.declared.cell.Cell.{Cell}
use Rattle.au_query.specs.Fixed.{AreFixed}
use Rattle.au_query.specs.descent.Inside.{trees_of_conditions}
use Rattle.au_query.proofs.fixing.all_fixed.Given as goal

abbrev pub invariant-loop-column : goal.invariant-loop-column
invariant-loop-column l =
    (rest : List Cell)
    → AreFixed l.session (trees_of_conditions l.conditions) l.range (drop l.column-index l.columns) rest
    → AreFixed l.session (trees_of_conditions l.conditions) l.range l.columns (l.cells.items ++ rest)
