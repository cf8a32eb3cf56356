use Rattle.std.proofs.Common.{drop}
use Rattle.std.specs.Prelude.{◌↔◌}
use Rattle.std.specs.List.{AllByRecursion}
use Rattle.au_replay.specs.Sights.{shown}
use Rattle.au_replay.specs.descent.Touched.{IsWholeBy}
use Rattle.au_replay.proofs.touched.are_whole.Given as goal

abbrev pub invariant-loop-change : goal.invariant-loop-change
invariant-loop-change l = AllByRecursion (IsWholeBy (shown l.sight)) (drop l.change-index l.changes) ↔ AllByRecursion (IsWholeBy (shown l.sight)) l.changes
