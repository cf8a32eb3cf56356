use Rattle.std.proofs.Common.{take}
use Rattle.std.specs.List.{AllByRecursion}
use Rattle.au_query.specs.descent.Inside.{AreMetTogether, IsReach, trees_in_tests}
use Rattle.au_query.proofs.cutting.tests.Given as goal

abbrev pub invariant-loop-condition : goal.invariant-loop-condition
invariant-loop-condition l = AreMetTogether (trees_in_tests l.tests.items) (take l.condition-index l.conditions) × AllByRecursion IsReach l.tests.items
