use Rattle.au_txn.specs.Desks.{open_in}
use Rattle.au_txn.specs.Inside.{laid_in}
use Rattle.au_txn.proofs.Numbered.{numbered}
use Rattle.au_txn.proofs.desk.Desk.numbers.Goals as goal

pub returns : goal.returns
returns c = rw (← c.self.view_is) (numbered c.self.inside.rows (open_in (laid_in c.self.inside.rows c.self.inside.logs.items) c.self.inside.logs.items) c.self.invariant c.args.table.now c.numbers.result.0 c.numbers.result.1 c.numbers.ensures.count c.numbers.ensures.largest)
