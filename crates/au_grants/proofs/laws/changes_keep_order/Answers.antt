use Rattle.au_grants.proofs.Ordered.{applied_in_order}
use Rattle.au_grants.proofs.laws.changes_keep_order.Goals as goal

pub returns : goal.returns
returns c = applied_in_order
