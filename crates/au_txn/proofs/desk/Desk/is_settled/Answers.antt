use Rattle.std.proofs.Common.{◌≡◌, Bool, false, sym, subst}
use Rattle.std.specs.Prelude.{◌↔◌, IsTrue}
use Rattle.au_base.specs.declared.numbers.ClientNo.{ClientNo}
use Rattle.au_txn.specs.Desks.{open_in}
use Rattle.au_txn.specs.Inside.{laid_in}
use Rattle.au_txn.specs.Transactions.{names_table}
use Rattle.au_txn.proofs.Keyed.{settled-names}
use Rattle.au_txn.proofs.desk.Desk.is_settled.Goals as goal

pub returns : goal.returns
returns c =
    rw (← c.self.view_is) (subst (λ (b : Bool). IsTrue b ↔ ((client : ClientNo) → names_table c.args.table.now (open_in (laid_in c.self.inside.rows c.self.inside.logs.items) c.self.inside.logs.items client) ≡ false)) (sym c.is_settled.ensures.changes)
    (settled-names c.self.inside.rows (open_in (laid_in c.self.inside.rows c.self.inside.logs.items) c.self.inside.logs.items) c.self.invariant c.args.table.now))
