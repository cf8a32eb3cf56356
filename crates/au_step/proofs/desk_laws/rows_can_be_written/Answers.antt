use Rattle.au_step.proofs.RowsWritten.{can_be_written}
use Rattle.au_step.proofs.desk_laws.rows_can_be_written.Goals as goal

pub returns : goal.returns
returns c = can_be_written c.rulings_change_rows.ensures.rows c.transactions_hold.ensures.same
