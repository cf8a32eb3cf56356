use Rattle.std.proofs.Common.{◌≡◌, ◌++◌, drop, map}
use Rattle.au_image.specs.descent.Rows.{row_of}
use Rattle.au_rows.specs.Held.{lent}
use Rattle.au_image.proofs.rows.push_view.Given as goal

abbrev pub invariant-loop-row : goal.invariant-loop-row
invariant-loop-row l = l.rows ++ map (row_of l.table) (map lent (drop l.row-index l.view)) ≡ l.fn.rows ++ map (row_of l.table) (map lent l.view)
