use Rattle.std.proofs.Common.{◌≡◌, ◌++◌, drop}
use Rattle.std.specs.List.{enumerate_from, flat_map}
use Rattle.au_query.specs.descent.Outputs.{trees_in}
use Rattle.au_query.specs.Queries.{all_columns, columns_of_range}
use Rattle.au_query.proofs.planning.columns.Given as goal

abbrev pub invariant-loop-number : goal.invariant-loop-number
invariant-loop-number l = trees_in l.outputs.items ++ flat_map columns_of_range (enumerate_from l.number (drop l.number l.ranges)) ≡ all_columns l.ranges
