use Rattle.std.proofs.Common.{◌∙◌, sym, ap}
use Rattle.std.specs.Prelude.{is_some}
use Rattle.au_txn.specs.Desks.{open_of, replayer}
use Rattle.au_txn.specs.Transactions.{laid_over}
use Rattle.au_replay.proofs.RowsSeen.{any_row, copied_is}
use Rattle.au_replay.proofs.rows.has_numbered.Goals as goal

pub returns : goal.returns
returns c =
    c.is_some.ensures ∙ sym (copied_is c.seen.result) ∙ ap is_some c.seen.ensures
    ∙ sym (any_row c.args.table.now c.args.row (laid_over c.args.desk.now.rows (open_of c.args.desk.now replayer)))
