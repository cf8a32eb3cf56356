use Rattle.std.proofs.Common.{◌∙◌}
use Rattle.au_txn.specs.Desks.{open_in}
use Rattle.au_txn.specs.Inside.{laid_in}
use Rattle.au_txn.proofs.Viewed.{viewed}
use Rattle.au_txn.proofs.desk.Desk.view.Goals as goal

pub returns : goal.returns
returns c = rw (← c.self.view_is) (c.in_ok-rows.ensures ∙ viewed c.self.inside.rows (open_in (laid_in c.self.inside.rows c.self.inside.logs.items) c.self.inside.logs.items) c.self.invariant c.args.table.now c.args.client)
