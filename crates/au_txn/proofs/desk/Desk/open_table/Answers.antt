use Rattle.std.proofs.Common.{◌≤◌, ◌∙◌, length, refl, sym, subst, ap, arith}
use Rattle.au_rows.specs.Held.{Contents, number_of}
use Rattle.au_txn.specs.Desks.{open_in}
use Rattle.au_txn.specs.Inside.{Ties, committed, laid_in, open_tables}
use Rattle.au_txn.proofs.Laid.{same-lists}
use Rattle.au_txn.proofs.Opened.{committed-with, ties-opened}
use Rattle.au_txn.proofs.TableLemmas.{shut-is, tables-with}
use Rattle.au_txn.proofs.desk.Desk.open_table.Goals as goal

pub open_table-requires-clause-new : goal.open_table-requires-clause-new
open_table-requires-clause-new c = let shut = rw (← c.self.view_is) at c.requires.new in shut-is c.args.table c.self.inside.rows.tables c.self.invariant.names shut

pub invariant_of-self : goal.invariant_of-self
invariant_of-self c =
    let shut = rw (← c.self.view_is) at c.requires.new in
    let none = shut-is c.args.table c.self.inside.rows.tables c.self.invariant.names shut in
    let last : length c.self.inside.rows.tables ≤ number_of c.args.table c.self.inside.rows.tables = omega (arith, none) in
    (same-lists (laid_in c.self.inside.rows c.self.inside.logs.items) c.self.inside.logs.items c.self.inside.logs.items c.open_table.new.self
    (subst (λ (kept : Contents). Ties kept (open_in (laid_in c.self.inside.rows c.self.inside.logs.items) c.self.inside.logs.items)) (sym c.open_table.ensures.rest)
    (ties-opened (record { name = c.args.table; key = c.args.key.items }) c.self.inside.rows (open_in (laid_in c.self.inside.rows c.self.inside.logs.items) c.self.inside.logs.items) c.self.invariant last c.open_table.new.self.spare)) (λ q. refl)).ties

pub returns-clause-changes : goal.returns-clause-changes
returns-clause-changes c =
    let shut = rw (← c.self.view_is) at c.requires.new in
    let none = shut-is c.args.table c.self.inside.rows.tables c.self.invariant.names shut in
    let last : length c.self.inside.rows.tables ≤ number_of c.args.table c.self.inside.rows.tables = omega (arith, none) in
    rw (← c.self.view_is) (same-lists (laid_in c.self.inside.rows c.self.inside.logs.items) c.self.inside.logs.items c.self.inside.logs.items c.open_table.new.self
    (subst (λ (kept : Contents). Ties kept (open_in (laid_in c.self.inside.rows c.self.inside.logs.items) c.self.inside.logs.items)) (sym c.open_table.ensures.rest)
    (ties-opened (record { name = c.args.table; key = c.args.key.items }) c.self.inside.rows (open_in (laid_in c.self.inside.rows c.self.inside.logs.items) c.self.inside.logs.items) c.self.invariant last c.open_table.new.self.spare)) (λ q. refl)).changes

pub returns-clause-laid : goal.returns-clause-laid
returns-clause-laid c =
    let shut = rw (← c.self.view_is) at c.requires.new in
    let none = shut-is c.args.table c.self.inside.rows.tables c.self.invariant.names shut in
    let last : length c.self.inside.rows.tables ≤ number_of c.args.table c.self.inside.rows.tables = omega (arith, none) in
    rw (← c.self.view_is) (same-lists (laid_in c.self.inside.rows c.self.inside.logs.items) c.self.inside.logs.items c.self.inside.logs.items c.open_table.new.self
    (subst (λ (kept : Contents). Ties kept (open_in (laid_in c.self.inside.rows c.self.inside.logs.items) c.self.inside.logs.items)) (sym c.open_table.ensures.rest)
    (ties-opened (record { name = c.args.table; key = c.args.key.items }) c.self.inside.rows (open_in (laid_in c.self.inside.rows c.self.inside.logs.items) c.self.inside.logs.items) c.self.invariant last c.open_table.new.self.spare)) (λ q. refl)).laid_is

pub returns-clause-tables : goal.returns-clause-tables
returns-clause-tables c =
    let shut = rw (← c.self.view_is) at c.requires.new in
    let none = shut-is c.args.table c.self.inside.rows.tables c.self.invariant.names shut in
    let last : length c.self.inside.rows.tables ≤ number_of c.args.table c.self.inside.rows.tables = omega (arith, none) in
    rw (← c.self.view_is) (ap (λ (kept : Contents). open_tables kept.tables) c.open_table.ensures.rest
    ∙ tables-with (record { name = c.args.table; key = c.args.key.items }) c.self.inside.rows.tables last c.self.invariant.names)

pub returns-clause-rows : goal.returns-clause-rows
returns-clause-rows c =
    let shut = rw (← c.self.view_is) at c.requires.new in
    let none = shut-is c.args.table c.self.inside.rows.tables c.self.invariant.names shut in
    let last : length c.self.inside.rows.tables ≤ number_of c.args.table c.self.inside.rows.tables = omega (arith, none) in
    rw (← c.self.view_is) (ap (λ (kept : Contents). committed kept.tables kept.held) c.open_table.ensures.rest
    ∙ committed-with (record { name = c.args.table; key = c.args.key.items }) c.self.inside.rows (open_in (laid_in c.self.inside.rows c.self.inside.logs.items) c.self.inside.logs.items) c.self.invariant last)
