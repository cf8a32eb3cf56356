-- Cells that fit their columns.
use Rattle.std.proofs.Common.{◌≡◌, List, [], ◌∷◌, length, refl, arith}
use Rattle.au_base.specs.declared.cell.Cell.{Cell}
use Rattle.au_base.specs.declared.table.Column.{Column}
use Rattle.au_entries.specs.Lawful.{FitColumns}

-- there are as many as columns
pub as_many : (columns : List Column) (cells : List Cell) → FitColumns columns cells → length columns ≡ length cells
as_many [] [] fit = refl
as_many [] (cell ∷ cells) fit = absurd fit
as_many (column ∷ columns) [] fit = absurd fit
as_many (column ∷ columns) (cell ∷ cells) fit = let rest = as_many columns cells fit.1 in omega (arith, rest)
