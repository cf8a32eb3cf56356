use Rattle.std.proofs.Common.{◌≡◌, drop}
use Rattle.std.specs.List.{list_all}
use Rattle.au_expr.specs.declared.placed.Placed.{Placed}
use Rattle.au_expr.specs.Placing.{value_at}
use Rattle.au_expr.specs.Values.{is_met}
use Rattle.au_query.proofs.scan.are_met.Given as goal

abbrev pub invariant-loop-condition : goal.invariant-loop-condition
invariant-loop-condition l =
    let each = list_all (λ (tree : Placed). is_met (value_at l.row l.session tree)) in
    each (drop l.condition-index l.conditions) ≡ each l.conditions
