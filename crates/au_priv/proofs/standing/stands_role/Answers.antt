use Rattle.std.proofs.Common.{arith}
use Rattle.au_priv.proofs.Stands.{role_more}
use Rattle.au_priv.proofs.standing.stands_role.Goals as goal

pub loop-change-preserved : goal.loop-change-preserved
loop-change-preserved c = role_more c.args.changes.now c.loop-change.change-index _ c.args.before.now c.args.grantee.now c.args.role.now c.args.admin _ _ (omega arith) c.change-item.is c.loop-change.invariant c.role_after-stands.ensures
