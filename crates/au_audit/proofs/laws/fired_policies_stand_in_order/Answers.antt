use Rattle.au_audit.proofs.FiredOrder.{fired_ordered}
use Rattle.au_audit.proofs.laws.fired_policies_stand_in_order.Goals as goal

pub returns : goal.returns
returns c = fired_ordered
