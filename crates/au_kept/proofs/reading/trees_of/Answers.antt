use Rattle.std.proofs.Common.{List, subst}
use Rattle.std.specs.List.{AllByRecursion}
use Rattle.au_entries.specs.declared.change.Change.{Change}
use Rattle.au_replay.specs.Reading.{HasShortText, conditions}
use Rattle.au_kept.proofs.Steps.{next, texts_step}
use Rattle.au_kept.proofs.reading.trees_of.Goals as goal

pub push_tree-requires : goal.push_tree-requires
push_tree-requires c =
    let at = next c.args.changes.now c.loop-change.change-index c.change-item.result c.loop-change-test.true c.change-item.is in
    record { short = (subst (λ (xs : List Change). AllByRecursion HasShortText xs) at c.loop-change.invariant.short).0 }

pub loop-change-preserved : goal.loop-change-preserved
loop-change-preserved c =
    let at = next c.args.changes.now c.loop-change.change-index c.change-item.result c.loop-change-test.true c.change-item.is in
    record {
      trees = texts_step conditions.tree c.change-item.result _ _ _ _ _ at c.in_ok-push_tree.ensures c.loop-change.invariant.trees;
      short = (subst (λ (xs : List Change). AllByRecursion HasShortText xs) at c.loop-change.invariant.short).1;
    }
