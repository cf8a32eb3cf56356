use Rattle.au_txn.proofs.Answering.{of-table, tables-rows, view-answers}
use Rattle.au_txn.proofs.Numbered.{contains-has, has-contains}
use Rattle.au_txn.proofs.RowOrder.{answered, there}
use Rattle.au_txn.proofs.laws.rows_stand_by_tables.Goals as goal

pub returns-clause-found : goal.returns-clause-found
returns-clause-found c = λ rows row ordered has. answered rows ordered row (contains-has rows row has)

pub returns-clause-there : goal.returns-clause-there
returns-clause-there c = λ rows row is. has-contains rows row (there row.table row.number row.cells rows is)

pub returns-clause-of_table : goal.returns-clause-of_table
returns-clause-of_table c = λ table other number rows. of-table table other number rows

pub returns-clause-viewed : goal.returns-clause-viewed
returns-clause-viewed c = λ rows changes table row ordered. view-answers rows changes table row ordered

pub returns-clause-parts : goal.returns-clause-parts
returns-clause-parts c = λ tables rows sorted ordered opened. tables-rows rows tables sorted ordered opened
