use Rattle.au_base.proofs.Members.{placed_cases, placed_from}
use Rattle.au_base.proofs.order.placed_has_both.Goals as goal

pub returns : goal.returns
returns g c value elements other = (placed_cases g.T.InOrder.before value elements other, placed_from g.T.InOrder.before value elements other)
