use Rattle.std.proofs.Common.{◌≡◌, ◌≤◌, length, take}
use Rattle.std.specs.List.{filter}
use Rattle.au_main.specs.Samples.{is_fine}
use Rattle.au_main.proofs.sampling.fine_grained.Given as goal

abbrev pub invariant-loop-entry : goal.invariant-loop-entry
invariant-loop-entry l = record {
  counted : l.count ≡ length (filter is_fine (take l.entry-index l.trail));
  few : l.count ≤ l.entry-index;
}
