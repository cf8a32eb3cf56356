use Rattle.std.proofs.Common.{◌≡◌, ◌++◌, drop}
use Rattle.au_image.proofs.rows.copy_cells.Given as goal

abbrev pub invariant-loop-cell : goal.invariant-loop-cell
invariant-loop-cell l = l.copy ++ drop l.cell-index l.cells ≡ l.cells
