use Rattle.std.proofs.Common.{drop}
use Rattle.std.specs.List.{AllByRecursion}
use Rattle.au_define.specs.Names.{IsTableNamed}
use Rattle.au_ruling.proofs.soundness.joins_are_named.Given as goal

abbrev pub invariant-loop-join : goal.invariant-loop-join
invariant-loop-join l = AllByRecursion (λ join. IsTableNamed join.table.table) (drop l.join-index l.joins) → AllByRecursion (λ join. IsTableNamed join.table.table) l.joins
