use Rattle.std.proofs.Common.{◌≡◌, ◌-◌, ◌≤◌, max, true, vec_len}
use Rattle.std.specs.List.{list_all}
use Rattle.au_rows.specs.Blocks.{has_none}
use Rattle.au_rows.proofs.blocks.make_fresh.Given as goal

abbrev pub invariant-loop-alloc : goal.invariant-loop-alloc
invariant-loop-alloc l = record {
  vacant : list_all has_none l.fresh.items ≡ true;
  more : vec_len l.fn.fresh ≤ vec_len l.fresh;
  most : vec_len l.fresh ≤ max l.count (vec_len l.fn.fresh);
}

abbrev pub decreases-loop-alloc : goal.decreases-loop-alloc
decreases-loop-alloc l = l.count - vec_len l.fresh
