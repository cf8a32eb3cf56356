use Rattle.std.proofs.Common.{◌≤◌}
use Rattle.au_txn.specs.declared.change.RowChange.{RowChange}
use Rattle.au_txn.specs.Desks.{open_of}
use Rattle.au_txn.specs.Transactions.{laid_over}
use Rattle.au_plan.proofs.Laid.{no_row_zero}
use Rattle.au_plan.proofs.Elements.{each_at}
use Rattle.au_plan.proofs.lending.row_at.Goals as goal

pub returns-then-number-eq0 : goal.returns-then-number-eq0
returns-then-number-eq0 c =
    let desk = c.args.desk.now in
    let own = open_of desk c.args.client in
    no_row_zero desk c.args.client
    (record {
      committed = λ row has. (c.holds_together.ensures.open row has).1;
      changed = λ change has. each_at (λ (change : RowChange). 1 ≤ change.row.0) own change (c.holds_together.ensures.numbered c.args.client) has;
    })
    (c.laid_rows_answer.ensures.laid desk.rows own) (λ row is. c.rows_stand_by_tables.ensures.there (laid_over desk.rows own) row is)
    c.args.table.now c.args.number c.if-number-eq0.true
