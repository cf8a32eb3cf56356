use Rattle.std.proofs.Common.{◌≡◌, length, map, true}
use Rattle.std.specs.List.{list_all}
use Rattle.au_rows.specs.Held.{next_of}
use Rattle.au_rows.specs.Kept.{held_of, place_from}
use Rattle.au_rows.specs.Order.{in_order}
use Rattle.au_rows.proofs.reading.next_in.Given as goal

abbrev pub invariant-loop-place : goal.invariant-loop-place
invariant-loop-place l = record {
  order : in_order l.walk ≡ true;
  from : list_all (place_from l.table l.after) l.walk ≡ true;
  same : next_of l.table l.after l.by (map (held_of l.versions.slots) l.walk) ≡ next_of l.table l.after l.by (map (held_of l.versions.slots) l.places.listed);
}

abbrev pub decreases-loop-place : goal.decreases-loop-place
decreases-loop-place l = length l.walk
