use Rattle.std.proofs.Common.{◌≡◌, ◌++◌, take}
use Rattle.std.specs.List.{AllByRecursion}
use Rattle.au_query.specs.descent.Inside.{IsReach, trees_in_tests}
use Rattle.au_query.proofs.cutting.push_each.Given as goal

abbrev pub invariant-loop-tree : goal.invariant-loop-tree
invariant-loop-tree l = (trees_in_tests l.tests.items ≡ trees_in_tests l.initial.tests.items ++ take l.tree-index l.trees) × AllByRecursion IsReach l.tests.items
