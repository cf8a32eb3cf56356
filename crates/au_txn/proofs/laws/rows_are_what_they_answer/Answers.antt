use Rattle.au_txn.proofs.Histories.{laid_over-ordered}
use Rattle.au_txn.proofs.RowOrder.{same_rows}
use Rattle.au_txn.proofs.laws.rows_are_what_they_answer.Goals as goal

pub returns-clause-same : goal.returns-clause-same
returns-clause-same c = λ a b oa ob same. same_rows a b oa ob same

pub returns-clause-ordered : goal.returns-clause-ordered
returns-clause-ordered c = λ rows changes ordered. laid_over-ordered rows changes ordered
