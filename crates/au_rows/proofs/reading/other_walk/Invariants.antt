use Rattle.std.proofs.Common.{◌≡◌, ◌≢◌, length, map, List, Some, true}
use Rattle.std.specs.List.{Contains, list_all}
use Rattle.au_base.specs.declared.cell.Cell.{Cell}
use Rattle.au_base.specs.declared.numbers.RowNo.{RowNo}
use Rattle.au_rows.specs.Held.{HasKey, view_of}
use Rattle.au_rows.specs.Kept.{held_of, place_from}
use Rattle.au_rows.specs.Order.{in_order}
use Rattle.au_rows.proofs.reading.other_walk.Given as goal

abbrev pub invariant-loop-place : goal.invariant-loop-place
invariant-loop-place l = record {
  order : in_order l.walk ≡ true;
  from : list_all (place_from l.asked.table (record { 0 = 0 })) l.walk ≡ true;
  within : (other : RowNo × List Cell) → Contains (view_of l.asked.table l.asked.by (map (held_of l.versions.slots) l.walk)) other
      → Contains (view_of l.asked.table l.asked.by (map (held_of l.versions.slots) l.places.listed)) other;
  rest : (other : RowNo × List Cell) → Contains (view_of l.asked.table l.asked.by (map (held_of l.versions.slots) l.places.listed)) other → other.0 ≢ l.row → HasKey l.asked.places.now l.asked.key.now (Some other.1)
      → Contains (view_of l.asked.table l.asked.by (map (held_of l.versions.slots) l.walk)) other;
}

abbrev pub decreases-loop-place : goal.decreases-loop-place
decreases-loop-place l = length l.walk
