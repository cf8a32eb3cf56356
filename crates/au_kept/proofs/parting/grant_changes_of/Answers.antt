use Rattle.au_entries.specs.Changing.{grant_changes}
use Rattle.au_kept.proofs.Steps.{flat_step, next}
use Rattle.au_kept.proofs.parting.grant_changes_of.Goals as goal

pub loop-change-preserved : goal.loop-change-preserved
loop-change-preserved c =
    flat_step grant_changes c.change-item.result _ _ _ _ _ (next c.args.changes.now c.loop-change.change-index c.change-item.result c.loop-change-test.true c.change-item.is) c.in_ok-push_grant_change.ensures c.loop-change.invariant
