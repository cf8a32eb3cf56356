use Rattle.std.proofs.Common.{drop}
use Rattle.std.specs.Prelude.{◌↔◌}
use Rattle.std.specs.List.{AllByRecursion}
use Rattle.au_base.specs.Cells.{IsSoundCell}
use Rattle.au_query.proofs.source.are_sound_cells.Given as goal

abbrev pub invariant-loop-cell : goal.invariant-loop-cell
invariant-loop-cell l = AllByRecursion IsSoundCell (drop l.cell-index l.cells) ↔ AllByRecursion IsSoundCell l.cells
