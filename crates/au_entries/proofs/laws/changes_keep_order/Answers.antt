use Rattle.au_entries.proofs.Ordered.{all_ordered, one_ordered}
use Rattle.au_entries.proofs.laws.changes_keep_order.Goals as goal

pub returns-clause-one : goal.returns-clause-one
returns-clause-one c = one_ordered c.changes_keep_order.ensures

pub returns-clause-all : goal.returns-clause-all
returns-clause-all c = all_ordered c.changes_keep_order.ensures
