use Rattle.au_entries.proofs.Truths.{all_lawful, one_lawful}
use Rattle.au_entries.proofs.laws.changes_keep_laws.Goals as goal

pub returns-clause-one : goal.returns-clause-one
returns-clause-one c = one_lawful (record { order = c.changes_keep_order.ensures; no_circle = c.changes_keep_no_circle.ensures.kept })

pub returns-clause-all : goal.returns-clause-all
returns-clause-all c = all_lawful (record { order = c.changes_keep_order.ensures; no_circle = c.changes_keep_no_circle.ensures.kept })
