use Rattle.std.proofs.Common.{drop}
use Rattle.std.specs.Prelude.{◌↔◌}
use Rattle.std.specs.List.{AllByRecursion}
use Rattle.au_kept.specs.Quick.{IsToOne}
use Rattle.au_kept.proofs.keeping.Keeping.are_to_one.Given as goal

abbrev pub invariant-loop-change : goal.invariant-loop-change
invariant-loop-change l = AllByRecursion (IsToOne l.self.kept l.name) (drop l.change-index l.changes) ↔ AllByRecursion (IsToOne l.self.kept l.name) l.changes
