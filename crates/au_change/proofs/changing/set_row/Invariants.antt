use Rattle.std.proofs.Common.{◌≡◌, ◌++◌, drop}
use Rattle.au_change.specs.Inside.{row_from}
use Rattle.au_change.proofs.changing.set_row.Given as goal

abbrev pub invariant-loop-at : goal.invariant-loop-at
invariant-loop-at l = l.row ++ row_from l.given (drop l.at l.sources) (drop l.at l.cells) ≡ row_from l.given l.sources l.cells
