use Rattle.au_txn.specs.Desks.{open_of}
use Rattle.au_txn.specs.Transactions.{laid_over}
use Rattle.au_world.specs.Sights.{sight_of}
use Rattle.au_plan.proofs.ChangedTable.{columns_apart, fitting_rows, seen_rows_fit}
use Rattle.au_plan.proofs.Fitting.{OneName}
use Rattle.au_plan.proofs.NewRows.{deletion_fits, insertion_fits, update_fits}
use Rattle.au_plan.proofs.changed_rows.changed_rows_fit.Goals as goal

pub returns-clause-inserted : goal.returns-clause-inserted
returns-clause-inserted c = λ world client session table insert made sound planned of_catalog is.
    let one : OneName = λ a b. (c.same_is_equal.ensures.table a b).0 in
    fitting_rows world one table of_catalog made.changes
    (insertion_fits (sight_of world client) client session table (columns_apart world one table of_catalog planned) insert made is)

pub returns-clause-updated : goal.returns-clause-updated
returns-clause-updated c = λ world client session table update made sound planned ordered of_catalog is.
    let one : OneName = λ a b. (c.same_is_equal.ensures.table a b).0 in
    let rows = world.desk.now.rows in
    let own = open_of world.desk.now client in
    let seen = seen_rows_fit world one table of_catalog client sound (c.laid_rows_answer.ensures.laid rows own) (λ row is. c.rows_stand_by_tables.ensures.there (laid_over rows own) row is)
    (λ name row. c.rows_stand_by_tables.ensures.viewed rows own name row ordered) in
    fitting_rows world one table of_catalog made.changes
    (update_fits (sight_of world client) client session table (columns_apart world one table of_catalog planned) seen update made is)

pub returns-clause-deleted : goal.returns-clause-deleted
returns-clause-deleted c = λ world client session table delete made sound planned ordered of_catalog is.
    let one : OneName = λ a b. (c.same_is_equal.ensures.table a b).0 in
    let rows = world.desk.now.rows in
    let own = open_of world.desk.now client in
    let seen = seen_rows_fit world one table of_catalog client sound (c.laid_rows_answer.ensures.laid rows own) (λ row is. c.rows_stand_by_tables.ensures.there (laid_over rows own) row is)
    (λ name row. c.rows_stand_by_tables.ensures.viewed rows own name row ordered) in
    fitting_rows world one table of_catalog made.changes
    (deletion_fits (sight_of world client) client session table (columns_apart world one table of_catalog planned) seen delete made is)
