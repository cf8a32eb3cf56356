use Rattle.std.proofs.Common.{drop}
use Rattle.std.specs.List.{AllByRecursion}
use Rattle.au_kept.specs.Ranks.{IsRanked}
use Rattle.au_kept.proofs.ranks.are_ranked.Given as goal

abbrev pub invariant-loop-change : goal.invariant-loop-change
invariant-loop-change l = AllByRecursion (IsRanked l.ranks.entries) (drop l.change-index l.changes) → AllByRecursion (IsRanked l.ranks.entries) l.changes
