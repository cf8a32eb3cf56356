use Rattle.std.proofs.Common.{◌≡◌}
use Rattle.au_grants.specs.Changing.{applied_all}
use Rattle.au_grants.specs.Order.{AreInOrder}
use Rattle.au_grants.specs.descent.Editing.{HasRoom, listed}
use Rattle.std.specs.Vec.Iter.{into_iter_items, into_iter_len}
use Rattle.au_grants.proofs.applying.make_all.Given as goal

abbrev pub invariant-loop-change : goal.invariant-loop-change
invariant-loop-change l =
    (applied_all (into_iter_items l.rest) (listed l.lists) ≡ applied_all l.fn.changes.items (listed l.initial.lists)) × AreInOrder (listed l.lists) × HasRoom (into_iter_items l.rest) l.lists

abbrev pub decreases-loop-change : goal.decreases-loop-change
decreases-loop-change l = into_iter_len l.rest
