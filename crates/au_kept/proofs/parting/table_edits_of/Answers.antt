use Rattle.au_kept.specs.Staging.{table_edit}
use Rattle.au_kept.proofs.Steps.{filter_step, next}
use Rattle.au_kept.proofs.parting.table_edits_of.Goals as goal

pub loop-change-preserved : goal.loop-change-preserved
loop-change-preserved c =
    filter_step table_edit c.change-item.result _ _ _ _ _ (next c.args.changes.now c.loop-change.change-index c.change-item.result c.loop-change-test.true c.change-item.is) c.in_ok-push_table_edit.ensures c.loop-change.invariant
