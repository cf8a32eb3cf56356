use Rattle.std.proofs.Common.{◌≡◌, drop}
use Rattle.std.specs.List.{list_all}
use Rattle.au_expr.specs.declared.placed.Placed.{Placed}
use Rattle.au_expr.specs.Placing.{value_at}
use Rattle.au_expr.specs.Values.{is_met}
use Rattle.au_query.specs.descent.Inside.{trees_in_tests}
use Rattle.au_query.proofs.cutting.are_passed.Given as goal

abbrev pub invariant-loop-test : goal.invariant-loop-test
invariant-loop-test l =
    let each = list_all (λ (tree : Placed). is_met (value_at l.row l.session tree)) in
    each (trees_in_tests (drop l.test-index l.tests)) ≡ each (trees_in_tests l.tests)
