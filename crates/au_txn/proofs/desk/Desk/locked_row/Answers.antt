use Rattle.au_txn.specs.Desks.{open_in}
use Rattle.au_txn.specs.Inside.{laid_in}
use Rattle.au_txn.proofs.Standing.{locked-iff}
use Rattle.au_txn.proofs.desk.Desk.locked_row.Goals as goal

pub returns : goal.returns
returns c = rw (← c.self.view_is) (locked-iff c.self.inside.rows (open_in (laid_in c.self.inside.rows c.self.inside.logs.items) c.self.inside.logs.items) c.self.invariant c.args.table.now c.args.row c.args.client c.is_free.result c.is_free.ensures)
