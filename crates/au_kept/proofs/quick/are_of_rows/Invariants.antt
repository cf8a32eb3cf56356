use Rattle.std.proofs.Common.{drop}
use Rattle.std.specs.Prelude.{◌↔◌}
use Rattle.std.specs.List.{AllByRecursion}
use Rattle.au_kept.specs.Staging.{IsOfRow}
use Rattle.au_kept.proofs.quick.are_of_rows.Given as goal

abbrev pub invariant-loop-change : goal.invariant-loop-change
invariant-loop-change l = AllByRecursion IsOfRow (drop l.change-index l.changes) ↔ AllByRecursion IsOfRow l.changes
