use Rattle.std.proofs.Common.{◌&&◌, not, refl}
use Rattle.std.specs.Prelude.{◌==◌}
use Rattle.au_base.specs.Sameness.{same_table}
use Rattle.au_txn.specs.Rows.{is_in, is_row}
use Rattle.au_txn.proofs.Pointed.{triples-back, triples-forth, triples-kept, triples-ordered, triples-put}
use Rattle.au_txn.proofs.laws.rows_are_triples.Goals as goal

pub returns-clause-back : goal.returns-clause-back
returns-clause-back c = λ rows. triples-back rows

pub returns-clause-forth : goal.returns-clause-forth
returns-clause-forth c = λ triples. triples-forth triples

pub returns-clause-ordered : goal.returns-clause-ordered
returns-clause-ordered c = λ rows. triples-ordered rows

pub returns-clause-gone : goal.returns-clause-gone
returns-clause-gone c = λ table number rows. triples-kept (λ row. not (is_row table number row)) (λ row. not (same_table row.0 table && (row.1.0 == number.0))) (λ r. refl) rows

pub returns-clause-left : goal.returns-clause-left
returns-clause-left c = λ table rows. triples-kept (λ row. not (is_in table row)) (λ row. not (same_table row.0 table)) (λ r. refl) rows

pub returns-clause-put : goal.returns-clause-put
returns-clause-put c = λ table number cells rows. triples-put table number cells rows
