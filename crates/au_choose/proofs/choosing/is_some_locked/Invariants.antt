use Rattle.std.proofs.Common.{drop}
use Rattle.au_query.specs.Combos.{lines}
use Rattle.au_choose.specs.Choosing.{IsSomeLocked}
use Rattle.au_world.specs.Sights.{sight_of}
use Rattle.au_choose.proofs.choosing.is_some_locked.Given as goal

abbrev pub invariant-loop-number : goal.invariant-loop-number
invariant-loop-number l =
    (IsSomeLocked (sight_of l.world l.client) l.client l.table (lines (drop l.number-index l.rows)) → IsSomeLocked (sight_of l.world l.client) l.client l.table (lines l.rows))
    × (IsSomeLocked (sight_of l.world l.client) l.client l.table (lines l.rows) → IsSomeLocked (sight_of l.world l.client) l.client l.table (lines (drop l.number-index l.rows)))
