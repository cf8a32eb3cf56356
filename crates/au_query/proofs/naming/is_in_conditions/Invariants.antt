use Rattle.std.proofs.Common.{◌≡◌, drop}
use Rattle.std.specs.List.{list_any}
use Rattle.au_expr.specs.Ranges.{names_column}
use Rattle.au_query.proofs.naming.is_in_conditions.Given as goal

abbrev pub invariant-loop-condition : goal.invariant-loop-condition
invariant-loop-condition l = list_any (names_column l.range l.column) (drop l.condition-index l.conditions) ≡ list_any (names_column l.range l.column) l.conditions
