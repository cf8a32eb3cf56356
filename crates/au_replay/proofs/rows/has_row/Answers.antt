use Rattle.std.proofs.Common.{sym}
use Rattle.au_txn.specs.Desks.{open_of, replayer}
use Rattle.au_replay.proofs.RowsSeen.{none_at_zero}
use Rattle.au_replay.proofs.rows.has_row.Goals as goal

pub returns-then-number-eq0 : goal.returns-then-number-eq0
returns-then-number-eq0 c =
    sym (none_at_zero c.rows_stand_by_tables.ensures.there c.laid_rows_answer.ensures.laid c.args.desk.now.rows (open_of c.args.desk.now replayer)
    (λ row has. (c.holds_together.ensures.open row has).1) (c.holds_together.ensures.numbered replayer) c.args.table.now c.args.row c.if-number-eq0.true)
