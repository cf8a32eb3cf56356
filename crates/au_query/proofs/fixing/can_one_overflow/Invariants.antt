use Rattle.std.proofs.Common.{◌≡◌, drop}
use Rattle.std.specs.List.{list_any}
use Rattle.au_expr.specs.Overflows.{can_overflow}
use Rattle.au_query.proofs.fixing.can_one_overflow.Given as goal

abbrev pub invariant-loop-condition : goal.invariant-loop-condition
invariant-loop-condition l = list_any can_overflow (drop l.condition-index l.conditions) ≡ list_any can_overflow l.conditions
