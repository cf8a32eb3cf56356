use Rattle.au_query.proofs.Orders.{one_reply}
use Rattle.au_query.proofs.laws.replies_are_one.Goals as goal

pub returns : goal.returns
returns c = one_reply
