use Rattle.au_base.proofs.Placing.{none_twice}
use Rattle.au_base.proofs.order.nothing_in_order_stands_twice.Goals as goal

pub returns : goal.returns
returns g c = none_twice g.T.InOrder.before g.met.T.InOrder.irreflexive
