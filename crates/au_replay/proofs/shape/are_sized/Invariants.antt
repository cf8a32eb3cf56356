use Rattle.std.proofs.Common.{drop}
use Rattle.std.specs.Prelude.{◌↔◌}
use Rattle.std.specs.List.{AllByRecursion}
use Rattle.au_entries.specs.Replaying.{IsSizeOf}
use Rattle.au_replay.proofs.shape.are_sized.Given as goal

abbrev pub invariant-loop-column : goal.invariant-loop-column
invariant-loop-column l = AllByRecursion (λ column. IsSizeOf column.kind column.size) (drop l.column-index l.columns) ↔ AllByRecursion (λ column. IsSizeOf column.kind column.size) l.columns
