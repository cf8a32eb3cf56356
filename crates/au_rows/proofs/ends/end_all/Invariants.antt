use Rattle.std.proofs.Common.{◌≡◌, ◌+◌, ◌≤◌, filter, length, true}
use Rattle.std.specs.List.{list_all}
use Rattle.au_rows.specs.Ends.{EndedBefore}
use Rattle.au_rows.specs.Kept.{is_logged, is_owned, place_left, unsettled_others}
use Rattle.au_rows.proofs.ends.end_all.Given as goal

abbrev pub invariant-loop-change : goal.invariant-loop-change
invariant-loop-change l = record {
  left : list_all place_left l.places.listed ≡ true;
  ended : EndedBefore l.ending l.by l.changes.listed l.fn.changes.listed l.fn.places.listed l.fn.versions.slots l.places.listed l.versions.slots;
  others : filter (unsettled_others l.by) l.changes.listed ≡ filter (unsettled_others l.by) l.fn.changes.listed;
  logged : list_all (is_logged l.fn.versions.slots) l.changes.listed ≡ true;
  owned : list_all (is_owned l.fn.places.listed) l.changes.listed ≡ true;
  room : l.fn.versions.room ≤ l.versions.room;
  places_room : l.places.room ≡ l.fn.places.room;
  tables : l.places.tables ≡ l.fn.places.tables;
  changes_room : l.fn.changes.room + length l.fn.changes.listed ≤ l.changes.room + length l.changes.listed;
}

abbrev pub decreases-loop-change : goal.decreases-loop-change
decreases-loop-change l = length l.changes.listed
