use Rattle.au_txn.specs.Desks.{open_of, replayer}
use Rattle.au_replay.proofs.RowsSeen.{zero_row}
use Rattle.au_replay.proofs.touched.row_seen.Goals as goal

pub returns-then-row-eq0 : goal.returns-then-row-eq0
returns-then-row-eq0 c =
    zero_row c.rows_stand_by_tables.ensures.there c.laid_rows_answer.ensures.laid c.args.desk.now.rows (open_of c.args.desk.now replayer)
    (λ row has. (c.holds_together.ensures.open row has).1) (c.holds_together.ensures.numbered replayer) c.args.table.now c.args.row c.if-row-eq0.true
