use Rattle.au_txn.proofs.Answering.{keys-in, points-all, points-changed, points-laid}
use Rattle.au_txn.proofs.laws.keys_differ_by_points.Goals as goal

pub returns-clause-each : goal.returns-clause-each
returns-clause-each c = λ places table rows none. points-all places table rows none

pub returns-clause-changed : goal.returns-clause-changed
returns-clause-changed c = λ places table rows changes differ none. points-changed places table rows changes differ none

pub returns-clause-laid : goal.returns-clause-laid
returns-clause-laid c = λ places table rows finals differ none. points-laid places table rows finals differ none

pub returns-clause-viewed : goal.returns-clause-viewed
returns-clause-viewed c = λ places table rows. keys-in places table rows
