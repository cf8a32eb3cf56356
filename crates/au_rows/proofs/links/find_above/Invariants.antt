use Rattle.std.proofs.Common.{◌≡◌, ◌+◌, ◌<◌, ℕ, None, Some, get_or, length, true}
use Rattle.au_rows.specs.declared.entry.Entry.{Entry}
use Rattle.au_rows.specs.Ends.{is_own}
use Rattle.au_rows.specs.Links.{lane_in, lane_of}
use Rattle.au_rows.proofs.links.find_above.Given as goal

-- the client's entries are below an entry of its lane
abbrev pub invariant-loop-turn : goal.invariant-loop-turn
invariant-loop-turn l = record {
  upper : Entry;
  there : get_or l.entries l.above None ≡ Some upper;
  lane : lane_of upper ≡ lane_in l.by;
  under : (at : ℕ) (entry : Entry) → get_or l.entries at None ≡ Some entry → is_own l.by entry.change ≡ true → at < l.above;
  falls : l.above + l._turn < length l.entries;
}
