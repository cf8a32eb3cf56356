use Rattle.au_kept.proofs.Steps.{next, start_step}
use Rattle.au_kept.proofs.parting.last_start.Goals as goal

pub loop-change-preserved : goal.loop-change-preserved
loop-change-preserved c =
    start_step c.change-item.result _ _ _ _ _ (next c.args.changes.now c.loop-change.change-index c.change-item.result c.loop-change-test.true c.change-item.is) c.start_in-last.ensures c.loop-change.invariant
