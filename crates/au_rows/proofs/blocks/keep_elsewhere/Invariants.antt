use Rattle.std.proofs.Common.{◌≡◌, ◌<◌, ◌≤◌, drop, filter, length, take, true, vec_len, vec_capacity}
use Rattle.au_rows.specs.Blocks.{all_excess, is_filled, joined}
use Rattle.au_rows.specs.Kept.{place_elsewhere}
use Rattle.au_rows.proofs.blocks.keep_elsewhere.Given as goal

abbrev pub invariant-loop-at : goal.invariant-loop-at
invariant-loop-at l = record {
  most : l.at ≤ length l.blocks.items;
  within : l.at ≤ length l.fn.blocks.items;
  front : take l.at l.blocks.items ≡ take l.at l.fn.blocks.items;
  back : joined (drop l.at l.blocks.items) ≡ filter (place_elsewhere l.table) (joined (drop l.at l.fn.blocks.items));
  some : 0 < length l.blocks.items;
  filled : is_filled l.blocks.items ≡ true;
  excess : all_excess l.blocks.items ≤ all_excess l.fn.blocks.items;
  len : vec_len l.blocks ≤ vec_len l.fn.blocks;
  capacity : vec_capacity l.blocks ≡ vec_capacity l.fn.blocks;
}

abbrev pub decreases-loop-at : goal.decreases-loop-at
decreases-loop-at l = l.at
