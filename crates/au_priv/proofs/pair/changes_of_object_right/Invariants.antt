use Rattle.std.proofs.Common.{◌≡◌, map, take}
use Rattle.au_priv.specs.Pairs.{object_change}
use Rattle.au_priv.proofs.pair.changes_of_object_right.Given as goal

abbrev pub invariant-loop-action : goal.invariant-loop-action
invariant-loop-action l = l.pair ≡ map (object_change l.way l.table l.grantee) (take l.action-index l.action-items)
