use Rattle.std.proofs.Common.{take}
use Rattle.std.specs.List.{Contains}
use Rattle.au_txn.specs.declared.change.RowChange.{RowChange}
use Rattle.au_change.specs.Behind.{IsLockedChange}
use Rattle.au_change.proofs.key_rules.is_some_locked.Given as goal

abbrev pub invariant-loop-change : goal.invariant-loop-change
invariant-loop-change l = (change : RowChange) → Contains (take l.change-index l.changes) change → ¬ IsLockedChange l.asked change
