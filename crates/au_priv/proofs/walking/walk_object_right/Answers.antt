use Rattle.std.proofs.Common.{Ok, arith}
use Rattle.au_priv.specs.Pairs.{object_pair}
use Rattle.au_priv.proofs.Walks.{more_at, single, stops_at, walked_all, walked_each}
use Rattle.au_priv.proofs.walking.walk_object_right.Goals as goal

pub returns-in-Err : goal.returns-in-Err
returns-in-Err c = stops_at _ _ _ _ _ _ _ _ _ _ (omega arith) c.loop-grantee.invariant c.in_ok-next.ensures c.as_slice.ensures c.in_ok-pair.ensures c.grantee-item.is c.in-Err.is

pub loop-grantee-preserved : goal.loop-grantee-preserved
loop-grantee-preserved c = more_at _ _ _ _ _ _ _ _ _ _ (omega arith) c.loop-grantee.invariant c.in_ok-next.ensures c.as_slice.ensures c.in_ok-pair.ensures c.grantee-item.is c.in-Ok.is

pub returns : goal.returns
returns c =
    walked_each (object_pair c.args.way c.args.table.now c.args.right) c.args.grantees.now c.args.start (Ok c.loop-grantee.progress)
    (walked_all (single (object_pair c.args.way c.args.table.now c.args.right)) c.args.grantees.now c.loop-grantee.grantee-index c.args.start c.loop-grantee.progress (omega (arith, c.loop-grantee-test.false)) c.loop-grantee.invariant)
