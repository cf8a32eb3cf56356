use Rattle.std.proofs.Common.{map, arith}
use Rattle.au_priv.specs.Pairs.{right_pair}
use Rattle.au_priv.proofs.Walks.{stops_in, more_in}
use Rattle.au_priv.proofs.walking.walk_rights.Goals as goal

pub returns-in-Err : goal.returns-in-Err
returns-in-Err c = stops_in (λ right. map (right_pair c.args.way right) c.args.grantees.now) _ _ _ _ _ _ _ _ (omega arith) c.loop-right.invariant c.in_ok-next.ensures c.right-item.is c.in-Err.is

pub loop-right-preserved : goal.loop-right-preserved
loop-right-preserved c = more_in (λ right. map (right_pair c.args.way right) c.args.grantees.now) _ _ _ _ _ _ _ _ (omega arith) c.loop-right.invariant c.in_ok-next.ensures c.right-item.is c.in-Ok.is
