use Rattle.std.proofs.Common.{◌≡◌, ◌⊎◌, ℕ, ◌≤◌, true, get_or, length, None}
use Rattle.std.specs.List.{list_all, list_any}
use Rattle.au_rows.specs.Ends.{OnlyFrees, names_of}
use Rattle.au_rows.specs.Kept.{SameInOthers, is_whole, place_from}
use Rattle.au_rows.specs.Order.{in_order}
use Rattle.au_rows.proofs.dropping.free_all.Given as goal

abbrev pub invariant-loop-place : goal.invariant-loop-place
invariant-loop-place l = record {
  order : in_order l.walk ≡ true;
  from : list_all (place_from l.table (record { 0 = 0 })) l.walk ≡ true;
  whole : list_all (is_whole l.fn.versions.slots) l.walk ≡ true;
  others : SameInOthers l.table l.fn.versions.slots l.versions.slots;
  frees : OnlyFrees l.fn.versions.slots l.versions.slots;
  freed : (slot : ℕ) → list_any (names_of l.table slot) l.places.listed ≡ true → (list_any (names_of l.table slot) l.walk ≡ true) ⊎ (get_or l.versions.slots slot None ≡ None);
  room : l.fn.versions.room ≤ l.versions.room;
}

abbrev pub decreases-loop-place : goal.decreases-loop-place
decreases-loop-place l = length l.walk
