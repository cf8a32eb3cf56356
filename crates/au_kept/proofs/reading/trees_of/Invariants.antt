use Rattle.std.proofs.Common.{◌≡◌, ◌++◌, drop, map}
use Rattle.std.specs.List.{AllByRecursion}
use Rattle.au_catalog.specs.Settling.{condition_texts}
use Rattle.au_replay.specs.Reading.{HasShortText, conditions}
use Rattle.au_kept.proofs.reading.trees_of.Given as goal

abbrev pub invariant-loop-change : goal.invariant-loop-change
invariant-loop-change l = record {
  trees : l.trees.items ++ map conditions.tree (condition_texts (drop l.change-index l.changes)) ≡ map conditions.tree (condition_texts l.changes);
  short : AllByRecursion HasShortText (drop l.change-index l.changes);
}
