use Rattle.au_base.proofs.Placing.{placed_in_order}
use Rattle.au_base.proofs.order.placed_stands_in_order.Goals as goal

pub returns : goal.returns
returns g c = placed_in_order g.T.InOrder.before g.met.T.InOrder.transitive
