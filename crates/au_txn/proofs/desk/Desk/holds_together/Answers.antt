use Rattle.std.specs.Prelude.{IsTrue}
use Rattle.au_txn.specs.Desks.{is_open, open_in}
use Rattle.au_txn.specs.Inside.{laid_in, open_tables}
use Rattle.au_txn.specs.declared.change.RowChange.{RowChange}
use Rattle.au_rows.specs.Held.{IsOpen}
use Rattle.au_txn.proofs.Committed.{committed-ordered}
use Rattle.au_txn.proofs.Numbered.{row-open}
use Rattle.au_txn.proofs.Opened.{all-weaker}
use Rattle.au_txn.proofs.TableLemmas.{tables-ordered, there-opened}
use Rattle.au_txn.proofs.desk.Desk.holds_together.Goals as goal

pub returns-clause-tables : goal.returns-clause-tables
returns-clause-tables c = rw (← c.self.view_is) (tables-ordered c.self.inside.rows.tables c.self.invariant.names)

pub returns-clause-rows : goal.returns-clause-rows
returns-clause-rows c = rw (← c.self.view_is) (committed-ordered c.self.inside.rows.tables c.self.inside.rows.held c.self.invariant.names c.self.invariant.order c.self.invariant.open_tables)

pub returns-clause-there : goal.returns-clause-there
returns-clause-there c = rw (← c.self.view_is) (λ client. all-weaker (λ (x : RowChange). IsOpen x.table c.self.inside.rows.tables) (λ (x : RowChange). IsTrue (is_open x.table (open_tables c.self.inside.rows.tables)))
    (λ x opened. there-opened x.table c.self.inside.rows.tables c.self.invariant.names opened) (open_in (laid_in c.self.inside.rows c.self.inside.logs.items) c.self.inside.logs.items client) (c.self.invariant.there client))

pub returns-clause-old : goal.returns-clause-old
returns-clause-old c = rw (← c.self.view_is) c.self.invariant.from

pub returns-clause-apart : goal.returns-clause-apart
returns-clause-apart c = rw (← c.self.view_is) c.self.invariant.apart

pub returns-clause-open : goal.returns-clause-open
returns-clause-open c = rw (← c.self.view_is) (λ row has. row-open c.self.inside.rows (open_in (laid_in c.self.inside.rows c.self.inside.logs.items) c.self.inside.logs.items) c.self.invariant row has)

pub returns-clause-numbered : goal.returns-clause-numbered
returns-clause-numbered c = rw (← c.self.view_is) c.self.invariant.numbered
