use Rattle.std.proofs.Common.{not}
use Rattle.au_txn.specs.Rows.{is_in, row_before}
use Rattle.au_txn.proofs.Ordered.{filter-ordered}
use Rattle.au_txn.proofs.Pointed.{rest-answers, rest-keys}
use Rattle.au_txn.proofs.laws.tables_go_with_their_rows.Goals as goal

pub returns-clause-left : goal.returns-clause-left
returns-clause-left c = λ table other number rows. rest-answers table other number rows

pub returns-clause-left_ordered : goal.returns-clause-left_ordered
returns-clause-left_ordered c = λ table rows ordered. filter-ordered row_before (λ row. not (is_in table row)) rows ordered

pub returns-clause-keys : goal.returns-clause-keys
returns-clause-keys c = λ places table other rows differ. rest-keys places table other rows differ
