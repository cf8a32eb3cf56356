use Rattle.std.proofs.Common.{◌≡◌, ◌++◌, drop, length}
use Rattle.au_query.specs.Combos.{cells_of, lines}
use Rattle.au_query.proofs.combo.row_of.Given as goal

abbrev pub invariant-loop-cells : goal.invariant-loop-cells
invariant-loop-cells l = (l.row ++ cells_of (lines (drop l.cells-index l.rows)) ≡ cells_of (lines l.rows)) × (length l.row ≡ l.cells-index)
