use Rattle.std.proofs.Common.{◌≡◌, ◌-◌, ◌<◌, ◌≤◌, ℕ, true, false, length, get_or}
use Rattle.au_rows.specs.declared.place.Place.{Place}
use Rattle.au_rows.specs.Kept.{place_from}
use Rattle.au_rows.proofs.ordered.index_of.Given as goal

abbrev pub invariant-loop-low : goal.invariant-loop-low
invariant-loop-low l = record {
  near : l.low ≤ l.high;
  within : l.high ≤ length l.places;
  below : (k : ℕ) (d : Place) → k < l.low → place_from l.table l.number (get_or l.places k d) ≡ false;
  above : (d : Place) → l.high < length l.places → place_from l.table l.number (get_or l.places l.high d) ≡ true;
}

abbrev pub decreases-loop-low : goal.decreases-loop-low
decreases-loop-low l = l.high - l.low
