use Rattle.au_txn.specs.Desks.{open_in}
use Rattle.au_txn.specs.Inside.{laid_in}
use Rattle.au_txn.proofs.Keyed.{key-locked}
use Rattle.au_txn.proofs.desk.Desk.locked_key.Goals as goal

pub returns : goal.returns
returns c =
    let same = key-locked c.self.inside.rows (open_in (laid_in c.self.inside.rows c.self.inside.logs.items) c.self.inside.logs.items) c.self.invariant c.args.table.now c.args.key.now c.args.client in
    rw (← c.self.view_is) (λ locked. same.0 (c.key_locked.ensures.0 locked), λ locked. c.key_locked.ensures.1 (same.1 locked))
