use Rattle.std.proofs.Common.{◌≡◌, map, take}
use Rattle.au_change.specs.Deleting.{deletion}
use Rattle.au_query.specs.Combos.{lines}
use Rattle.au_change.proofs.deleting.deleted.Given as goal

abbrev pub invariant-loop-row : goal.invariant-loop-row
invariant-loop-row l = l.changes ≡ map (deletion l.table) (lines (take l.row-index l.rows))
