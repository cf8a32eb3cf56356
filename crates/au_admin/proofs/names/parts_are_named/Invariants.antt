use Rattle.std.proofs.Common.{drop}
use Rattle.std.specs.List.{AllByRecursion}
use Rattle.au_admin.specs.Names.{IsPartNamed}
use Rattle.au_admin.proofs.names.parts_are_named.Given as goal

abbrev pub invariant-loop-part : goal.invariant-loop-part
invariant-loop-part l = AllByRecursion IsPartNamed (drop l.part-index l.parts) → AllByRecursion IsPartNamed l.parts
