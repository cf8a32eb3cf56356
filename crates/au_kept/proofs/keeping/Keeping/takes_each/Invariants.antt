use Rattle.std.proofs.Common.{false, drop}
use Rattle.std.specs.Prelude.{◌↔◌}
use Rattle.std.specs.List.{AllByRecursion}
use Rattle.au_entries.specs.Replaying.{GoesOn}
use Rattle.au_replay.specs.Reading.{HasShortText, conditions}
use Rattle.au_kept.proofs.keeping.Keeping.takes_each.Given as goal

abbrev pub invariant-loop-change : goal.invariant-loop-change
invariant-loop-change l = record {
  short : AllByRecursion HasShortText (drop l.change-index l.changes);
  goes : AllByRecursion (GoesOn conditions false l.self.kept) (drop l.change-index l.changes) ↔ AllByRecursion (GoesOn conditions false l.self.kept) l.changes;
}
