use Rattle.std.proofs.Common.{drop}
use Rattle.std.specs.List.{AllByRecursion}
use Rattle.au_define.specs.Names.{IsRightNamed}
use Rattle.au_define.proofs.names.rights_are_named.Given as goal

abbrev pub invariant-loop-right : goal.invariant-loop-right
invariant-loop-right l = AllByRecursion IsRightNamed (drop l.right-index l.rights) → AllByRecursion IsRightNamed l.rights
