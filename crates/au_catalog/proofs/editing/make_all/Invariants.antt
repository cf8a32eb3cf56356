use Rattle.std.proofs.Common.{◌≡◌}
use Rattle.std.specs.Vec.Iter.{into_iter_items, into_iter_len}
use Rattle.au_catalog.specs.Staging.{IsOrdered, edited_all}
use Rattle.au_catalog.specs.descent.Editing.{HasRoom, listed}
use Rattle.au_catalog.proofs.editing.make_all.Given as goal

abbrev pub invariant-loop-edit : goal.invariant-loop-edit
invariant-loop-edit l =
    (edited_all (into_iter_items l.rest) (listed l.lists) ≡ edited_all l.fn.edits.items (listed l.initial.lists)) × IsOrdered (listed l.lists) × HasRoom (into_iter_items l.rest) l.lists

abbrev pub decreases-loop-edit : goal.decreases-loop-edit
decreases-loop-edit l = into_iter_len l.rest
