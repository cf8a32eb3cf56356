use Rattle.std.proofs.Common.{◌≡◌, ◌-◌, ◌<◌, ◌≤◌, ℕ, [], true, false, length, get_or}
use Rattle.au_rows.specs.Blocks.{starts_past}
use Rattle.au_rows.proofs.blocks.first_past.Given as goal

abbrev pub invariant-loop-low : goal.invariant-loop-low
invariant-loop-low l = record {
  near : l.low ≤ l.high;
  within : l.high ≤ length l.blocks;
  below : (k : ℕ) → k < l.low → starts_past l.table l.number (get_or l.blocks k []) ≡ false;
  above : l.high < length l.blocks → starts_past l.table l.number (get_or l.blocks l.high []) ≡ true;
}

abbrev pub decreases-loop-low : goal.decreases-loop-low
decreases-loop-low l = l.high - l.low
