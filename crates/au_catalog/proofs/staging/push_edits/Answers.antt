use Rattle.std.proofs.Common.{◌+◌, drop}
use Rattle.std.specs.Vec.Iter.{into_iter_items}
use Rattle.au_catalog.proofs.TreesStaged.{enough_first, enough_left, next, pushed_left}
use Rattle.au_catalog.proofs.staging.push_edits.Goals as goal

pub push_edit-requires : goal.push_edit-requires
push_edit-requires c =
    let at = next c.args.changes.now c.loop-change.change-index c.change-item.result c.loop-change-test.true c.change-item.is in
    record { trees = enough_first c.change-item.result _ (drop (c.loop-change.change-index + 1) c.args.changes.now) (into_iter_items c.loop-change.trees) at c.loop-change.invariant.enough }

pub loop-change-preserved : goal.loop-change-preserved
loop-change-preserved c =
    let at = next c.args.changes.now c.loop-change.change-index c.change-item.result c.loop-change-test.true c.change-item.is in
    let rest = drop (c.loop-change.change-index + 1) c.args.changes.now in
    let trees = into_iter_items c.loop-change.trees in
    let later = into_iter_items c.push_edit.new.trees in
    record {
      enough = enough_left c.change-item.result _ rest trees later at c.in_ok-push_edit.ensures.rest c.loop-change.invariant.enough;
      edits = pushed_left c.change-item.result _ rest trees later c.loop-change.edits.items c.push_edit.new.edits.items _ at c.in_ok-push_edit.ensures.rest c.in_ok-push_edit.ensures.edits c.loop-change.invariant.edits;
    }
