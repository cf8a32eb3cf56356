use Rattle.std.proofs.Common.{◌≡◌, ◌++◌, drop, map}
use Rattle.au_expr.specs.Placing.{value_at}
use Rattle.au_expr.specs.Values.{cell_in}
use Rattle.au_query.specs.descent.Outputs.{trees_in}
use Rattle.au_query.proofs.output.cells.Given as goal

abbrev pub invariant-loop-output : goal.invariant-loop-output
invariant-loop-output l =
    let each = map (λ tree. cell_in (value_at l.row l.session tree)) in
    l.cells ++ each (trees_in (drop l.output-index l.outputs)) ≡ each (trees_in l.outputs)
