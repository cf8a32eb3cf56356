use Rattle.au_txn.proofs.TableLemmas.{open-same}
use Rattle.au_txn.proofs.desk.Desk.is_open.Goals as goal

pub returns : goal.returns
returns c = rw (← c.self.view_is) (open-same c.args.table.now c.self.inside.rows.tables c.self.invariant.names c.is_open.result c.is_open.ensures)
