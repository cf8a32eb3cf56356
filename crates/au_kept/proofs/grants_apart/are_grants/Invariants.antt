use Rattle.std.proofs.Common.{drop}
use Rattle.std.specs.Prelude.{◌↔◌}
use Rattle.std.specs.List.{AllByRecursion}
use Rattle.au_kept.specs.Quick.{IsGrant}
use Rattle.au_kept.proofs.grants_apart.are_grants.Given as goal

abbrev pub invariant-loop-change : goal.invariant-loop-change
invariant-loop-change l = AllByRecursion IsGrant (drop l.change-index l.changes) ↔ AllByRecursion IsGrant l.changes
