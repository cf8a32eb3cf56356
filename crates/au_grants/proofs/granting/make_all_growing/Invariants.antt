use Rattle.std.proofs.Common.{◌≡◌}
use Rattle.std.specs.Vec.Iter.{into_iter_items, into_iter_len}
use Rattle.au_grants.specs.Changing.{applied_all}
use Rattle.au_grants.specs.descent.Growing.{AreGrowing, HasGrowth, grown}
use Rattle.au_grants.proofs.granting.make_all_growing.Given as goal

abbrev pub invariant-loop-change : goal.invariant-loop-change
invariant-loop-change l =
    (applied_all (into_iter_items l.rest) (grown l.lists) ≡ applied_all l.fn.changes.items (grown l.initial.lists)) × AreGrowing l.lists × HasGrowth (into_iter_items l.rest) l.lists

abbrev pub decreases-loop-change : goal.decreases-loop-change
decreases-loop-change l = into_iter_len l.rest
