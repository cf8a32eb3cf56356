use Rattle.std.proofs.Common.{◌≡◌, drop}
use Rattle.std.specs.List.{list_any}
use Rattle.au_expr.specs.Ranges.{names_column}
use Rattle.au_change.proofs.referring.is_in_conditions.Given as goal

abbrev pub invariant-loop-condition : goal.invariant-loop-condition
invariant-loop-condition l = list_any (names_column 0 l.number) (drop l.condition-index l.conditions) ≡ list_any (names_column 0 l.number) l.conditions
