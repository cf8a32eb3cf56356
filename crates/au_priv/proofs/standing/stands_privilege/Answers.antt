use Rattle.std.proofs.Common.{arith}
use Rattle.au_priv.proofs.Stands.{privilege_more}
use Rattle.au_priv.proofs.standing.stands_privilege.Goals as goal

pub loop-change-preserved : goal.loop-change-preserved
loop-change-preserved c = privilege_more c.args.changes.now c.loop-change.change-index _ c.args.before.now c.args.grantee.now c.args.privilege c.args.admin _ _ (omega arith) c.change-item.is c.loop-change.invariant c.privilege_after-stands.ensures
