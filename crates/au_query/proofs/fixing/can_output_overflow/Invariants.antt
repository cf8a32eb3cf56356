use Rattle.std.proofs.Common.{◌≡◌, drop}
use Rattle.std.specs.List.{list_any}
use Rattle.au_expr.specs.Overflows.{can_overflow}
use Rattle.au_query.specs.descent.Outputs.{trees_in}
use Rattle.au_query.proofs.fixing.can_output_overflow.Given as goal

abbrev pub invariant-loop-output : goal.invariant-loop-output
invariant-loop-output l = list_any can_overflow (trees_in (drop l.output-index l.outputs)) ≡ list_any can_overflow (trees_in l.outputs)
