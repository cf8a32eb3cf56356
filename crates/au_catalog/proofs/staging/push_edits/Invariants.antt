use Rattle.std.proofs.Common.{◌≡◌, ◌≤◌, ◌++◌, drop, length}
use Rattle.std.specs.Vec.Iter.{into_iter_items}
use Rattle.au_catalog.specs.Settling.{condition_texts}
use Rattle.au_catalog.specs.Staging.{edits_with}
use Rattle.au_catalog.proofs.staging.push_edits.Given as goal

abbrev pub invariant-loop-change : goal.invariant-loop-change
invariant-loop-change l = record {
  enough : length (condition_texts (drop l.change-index l.changes)) ≤ length (into_iter_items l.trees);
  edits : l.edits.items ++ edits_with (into_iter_items l.trees) (drop l.change-index l.changes) ≡ l.fn.edits.items ++ edits_with (into_iter_items l.fn.trees) l.changes;
}
