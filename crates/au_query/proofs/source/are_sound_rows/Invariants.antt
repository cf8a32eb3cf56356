use Rattle.std.proofs.Common.{drop}
use Rattle.std.specs.Prelude.{◌↔◌}
use Rattle.std.specs.List.{AllByRecursion}
use Rattle.au_query.specs.Combos.{IsSoundLine, lines}
use Rattle.au_query.proofs.source.are_sound_rows.Given as goal

abbrev pub invariant-loop-cells : goal.invariant-loop-cells
invariant-loop-cells l = AllByRecursion IsSoundLine (lines (drop l.cells-index l.rows)) ↔ AllByRecursion IsSoundLine (lines l.rows)
