use Rattle.std.proofs.Common.{◌≡◌, ◌-◌, ◌≤◌, ℕ, get_or, length, max, vec_len}
use Rattle.au_rows.proofs.counts.count_to.Given as goal

abbrev pub invariant-loop-counts : goal.invariant-loop-counts
invariant-loop-counts l = record {
  same : (table : ℕ) → get_or l.counts.items table 0 ≡ get_or l.fn.counts.items table 0;
  more : length l.fn.counts.items ≤ length l.counts.items;
  most : length l.counts.items ≤ max l.tables (length l.fn.counts.items);
}

abbrev pub decreases-loop-counts : goal.decreases-loop-counts
decreases-loop-counts l = l.tables - vec_len l.counts
