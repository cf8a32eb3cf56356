use Rattle.std.proofs.Common.{drop, map}
use Rattle.au_rows.specs.Held.{SomeLocks}
use Rattle.au_rows.specs.Kept.{change_of, held_of}
use Rattle.au_rows.specs.Links.{live}
use Rattle.au_rows.proofs.keys.locked_walk.Given as goal

abbrev pub invariant-loop-entry : goal.invariant-loop-entry
invariant-loop-entry l =
    (SomeLocks l.asked.places.now (map (held_of l.versions.slots) l.places.listed) l.asked.table l.asked.key.now l.asked.by (map (change_of l.versions.slots) (live l.entries))
    → SomeLocks l.asked.places.now (map (held_of l.versions.slots) l.places.listed) l.asked.table l.asked.key.now l.asked.by (map (change_of l.versions.slots) (live (drop l.entry-index l.entries))))
    × (SomeLocks l.asked.places.now (map (held_of l.versions.slots) l.places.listed) l.asked.table l.asked.key.now l.asked.by (map (change_of l.versions.slots) (live (drop l.entry-index l.entries)))
    → SomeLocks l.asked.places.now (map (held_of l.versions.slots) l.places.listed) l.asked.table l.asked.key.now l.asked.by (map (change_of l.versions.slots) (live l.entries)))
