use Rattle.std.proofs.Common.{drop}
use Rattle.std.specs.List.{AllByRecursion}
use Rattle.au_define.specs.Names.{IsElementNamed}
use Rattle.au_define.proofs.names.elements_are_named.Given as goal

abbrev pub invariant-loop-element : goal.invariant-loop-element
invariant-loop-element l = AllByRecursion IsElementNamed (drop l.element-index l.elements) → AllByRecursion IsElementNamed l.elements
