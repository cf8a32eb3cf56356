use Rattle.std.proofs.Common.{◌≡◌, ◌++◌, map, take}
use Rattle.au_world.specs.Selecting.{joined_tables, range_of}
use Rattle.au_world.proofs.from_table.push_ranges.Given as goal

abbrev pub invariant-loop-join : goal.invariant-loop-join
invariant-loop-join l = l.ranges.items ≡ l.fn.ranges.items ++ map (range_of l.tables l.user) (joined_tables (take l.join-index l.joins))
