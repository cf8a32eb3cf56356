use Rattle.std.proofs.Common.{drop}
use Rattle.std.specs.Prelude.{◌↔◌}
use Rattle.std.specs.List.{AllByRecursion}
use Rattle.au_kept.specs.Quick.{IsOfOne}
use Rattle.au_kept.proofs.keeping.Keeping.are_of_one.Given as goal

abbrev pub invariant-loop-change : goal.invariant-loop-change
invariant-loop-change l = AllByRecursion (IsOfOne l.self.kept l.name) (drop l.change-index l.changes) ↔ AllByRecursion (IsOfOne l.self.kept l.name) l.changes
