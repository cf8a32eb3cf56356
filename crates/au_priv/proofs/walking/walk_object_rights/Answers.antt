use Rattle.std.proofs.Common.{map, refl, arith}
use Rattle.au_base.specs.declared.grant.ObjectRight.TheVariants.{Select}
use Rattle.au_priv.specs.Pairs.{object_pair}
use Rattle.au_priv.proofs.Walks.{stops_in, more_in}
use Rattle.au_priv.proofs.walking.walk_object_rights.Goals as goal

pub returns-in-Err : goal.returns-in-Err
returns-in-Err c = stops_in (λ right. map (object_pair c.args.way c.args.table.now right) c.args.grantees.now) _ _ _ Select _ _ _ _ (omega arith) c.loop-right.invariant c.in_ok-next.ensures refl c.in-Err.is

pub loop-right-preserved : goal.loop-right-preserved
loop-right-preserved c = more_in (λ right. map (object_pair c.args.way c.args.table.now right) c.args.grantees.now) _ _ _ Select _ _ _ _ (omega arith) c.loop-right.invariant c.in_ok-next.ensures refl c.in-Ok.is
