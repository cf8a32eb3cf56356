use Rattle.std.proofs.Common.{◌≡◌, drop}
use Rattle.std.specs.List.{list_any}
use Rattle.au_expr.specs.Ranges.{names_column}
use Rattle.au_query.specs.descent.Outputs.{trees_in}
use Rattle.au_query.proofs.naming.is_in_outputs.Given as goal

abbrev pub invariant-loop-output : goal.invariant-loop-output
invariant-loop-output l = list_any (names_column l.range l.column) (trees_in (drop l.output-index l.outputs)) ≡ list_any (names_column l.range l.column) (trees_in l.outputs)
