use Rattle.std.proofs.Common.{◌∙◌, refl, sym, subst, ap}
use Rattle.au_rows.specs.Held.{Contents}
use Rattle.au_txn.specs.Desks.{open_in}
use Rattle.au_txn.specs.Inside.{Ties, committed, laid_in, open_tables}
use Rattle.au_txn.proofs.Laid.{same-lists}
use Rattle.au_txn.proofs.Opened.{committed-less, no-owner, tables-less, ties-less}
use Rattle.au_txn.proofs.TableLemmas.{open-there}
use Rattle.au_txn.proofs.desk.Desk.drop_table.Goals as goal

pub drop_table-requires-clause-open : goal.drop_table-requires-clause-open
drop_table-requires-clause-open c = let there = rw (← c.self.view_is) at c.requires.there in open-there c.args.table.now c.self.inside.rows.tables there

pub drop_table-requires-clause-settled : goal.drop_table-requires-clause-settled
drop_table-requires-clause-settled c =
    let there = rw (← c.self.view_is) at c.requires.there in
    let settled = rw (← c.self.view_is) at c.requires.settled in
    no-owner c.args.table.now c.self.inside.rows (open_in (laid_in c.self.inside.rows c.self.inside.logs.items) c.self.inside.logs.items) c.self.invariant (open-there c.args.table.now c.self.inside.rows.tables there) settled

pub invariant_of-self : goal.invariant_of-self
invariant_of-self c =
    let there = rw (← c.self.view_is) at c.requires.there in
    let settled = rw (← c.self.view_is) at c.requires.settled in
    (same-lists (laid_in c.self.inside.rows c.self.inside.logs.items) c.self.inside.logs.items c.self.inside.logs.items c.drop_table.new.self
    (subst (λ (kept : Contents). Ties kept (open_in (laid_in c.self.inside.rows c.self.inside.logs.items) c.self.inside.logs.items)) (sym c.drop_table.ensures.rest)
    (ties-less c.args.table.now c.self.inside.rows (open_in (laid_in c.self.inside.rows c.self.inside.logs.items) c.self.inside.logs.items) c.self.invariant (open-there c.args.table.now c.self.inside.rows.tables there) settled c.drop_table.new.self.spare)) (λ q. refl)).ties

pub returns-clause-changes : goal.returns-clause-changes
returns-clause-changes c =
    let there = rw (← c.self.view_is) at c.requires.there in
    let settled = rw (← c.self.view_is) at c.requires.settled in
    rw (← c.self.view_is) (same-lists (laid_in c.self.inside.rows c.self.inside.logs.items) c.self.inside.logs.items c.self.inside.logs.items c.drop_table.new.self
    (subst (λ (kept : Contents). Ties kept (open_in (laid_in c.self.inside.rows c.self.inside.logs.items) c.self.inside.logs.items)) (sym c.drop_table.ensures.rest)
    (ties-less c.args.table.now c.self.inside.rows (open_in (laid_in c.self.inside.rows c.self.inside.logs.items) c.self.inside.logs.items) c.self.invariant (open-there c.args.table.now c.self.inside.rows.tables there) settled c.drop_table.new.self.spare)) (λ q. refl)).changes

pub returns-clause-laid : goal.returns-clause-laid
returns-clause-laid c =
    let there = rw (← c.self.view_is) at c.requires.there in
    let settled = rw (← c.self.view_is) at c.requires.settled in
    rw (← c.self.view_is) (same-lists (laid_in c.self.inside.rows c.self.inside.logs.items) c.self.inside.logs.items c.self.inside.logs.items c.drop_table.new.self
    (subst (λ (kept : Contents). Ties kept (open_in (laid_in c.self.inside.rows c.self.inside.logs.items) c.self.inside.logs.items)) (sym c.drop_table.ensures.rest)
    (ties-less c.args.table.now c.self.inside.rows (open_in (laid_in c.self.inside.rows c.self.inside.logs.items) c.self.inside.logs.items) c.self.invariant (open-there c.args.table.now c.self.inside.rows.tables there) settled c.drop_table.new.self.spare)) (λ q. refl)).laid_is

pub returns-clause-tables : goal.returns-clause-tables
returns-clause-tables c =
    let there = rw (← c.self.view_is) at c.requires.there in
    rw (← c.self.view_is) (ap (λ (kept : Contents). open_tables kept.tables) c.drop_table.ensures.rest
    ∙ tables-less c.args.table.now c.self.inside.rows (open_in (laid_in c.self.inside.rows c.self.inside.logs.items) c.self.inside.logs.items) c.self.invariant (open-there c.args.table.now c.self.inside.rows.tables there))

pub returns-clause-rows : goal.returns-clause-rows
returns-clause-rows c =
    let there = rw (← c.self.view_is) at c.requires.there in
    rw (← c.self.view_is) (ap (λ (kept : Contents). committed kept.tables kept.held) c.drop_table.ensures.rest
    ∙ committed-less c.args.table.now c.self.inside.rows (open_in (laid_in c.self.inside.rows c.self.inside.logs.items) c.self.inside.logs.items) c.self.invariant (open-there c.args.table.now c.self.inside.rows.tables there))
