use Rattle.std.proofs.Common.{arith}
use Rattle.au_priv.proofs.Stands.{object_more}
use Rattle.au_priv.proofs.standing.stands_object.Goals as goal

pub loop-change-preserved : goal.loop-change-preserved
loop-change-preserved c = object_more c.args.changes.now c.loop-change.change-index _ c.args.before.now c.args.grantee.now c.args.table.now c.args.action _ _ (omega arith) c.change-item.is c.loop-change.invariant c.object_after-stands.ensures
