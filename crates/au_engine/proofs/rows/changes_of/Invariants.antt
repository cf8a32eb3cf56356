use Rattle.std.proofs.Common.{◌≡◌, ◌++◌, map}
use Rattle.std.specs.Vec.Iter.{into_iter_items, into_iter_len}
use Rattle.au_kept.specs.Staging.{final_change}
use Rattle.au_engine.proofs.rows.changes_of.Given as goal

abbrev pub invariant-loop-next : goal.invariant-loop-next
invariant-loop-next l = l.changes ++ map final_change (into_iter_items l.rest) ≡ map final_change l.fn.finals.items

abbrev pub decreases-loop-next : goal.decreases-loop-next
decreases-loop-next l = into_iter_len l.rest
