use Rattle.std.proofs.Common.{◌∙◌, List, sym, subst, ap}
use Rattle.au_rows.specs.Held.{Contents}
use Rattle.au_txn.specs.declared.change.RowChange.{RowChange}
use Rattle.au_txn.specs.Desks.{open_in}
use Rattle.au_txn.specs.Inside.{CanWrite, Ties, committed, laid_in}
use Rattle.au_txn.proofs.Laid.{grown-lists}
use Rattle.au_txn.proofs.Written.{with_changes, write, written-rows}
use Rattle.au_txn.proofs.desk.Desk.write.Goals as goal

pub write_all-requires-clause-each : goal.write_all-requires-clause-each
write_all-requires-clause-each c =
    let each = rw (← c.self.view_is) at c.requires.changes in
    let old = rw (← c.self.view_is) at c.requires.old in
    let made = write c.args.changes.items c.self.inside.rows (open_in (laid_in c.self.inside.rows c.self.inside.logs.items) c.self.inside.logs.items) c.args.client c.self.invariant each old in
    subst (λ (changes : List RowChange). CanWrite c.self.inside.rows.tables c.args.client changes c.self.inside.rows.held) (sym c.as_slice.ensures.value) made.can

pub invariant_of-self : goal.invariant_of-self
invariant_of-self c =
    let each = rw (← c.self.view_is) at c.requires.changes in
    let old = rw (← c.self.view_is) at c.requires.old in
    let made = write c.args.changes.items c.self.inside.rows (open_in (laid_in c.self.inside.rows c.self.inside.logs.items) c.self.inside.logs.items) c.args.client c.self.invariant each old in
    (grown-lists c.args.client c.args.changes.items (laid_in c.self.inside.rows c.self.inside.logs.items) c.self.inside.logs.items c.append_for.new.logs.items c.write_all.new.rows
    (subst (λ (kept : Contents). Ties kept (with_changes c.args.client c.args.changes.items (open_in (laid_in c.self.inside.rows c.self.inside.logs.items) c.self.inside.logs.items)))
    (sym (written-rows c.self.inside.rows c.write_all.new.rows c.args.client c.as_slice.result.now c.args.changes.items c.as_slice.ensures.value c.write_all.ensures.tables c.write_all.ensures.held c.write_all.ensures.changes))
    (made.ties c.write_all.new.rows.spare)) c.append_for.ensures.own c.append_for.ensures.others).ties

pub returns-clause-rows : goal.returns-clause-rows
returns-clause-rows c =
    let each = rw (← c.self.view_is) at c.requires.changes in
    let old = rw (← c.self.view_is) at c.requires.old in
    let made = write c.args.changes.items c.self.inside.rows (open_in (laid_in c.self.inside.rows c.self.inside.logs.items) c.self.inside.logs.items) c.args.client c.self.invariant each old in
    rw (← c.self.view_is) (ap (λ (kept : Contents). committed kept.tables kept.held)
    (written-rows c.self.inside.rows c.write_all.new.rows c.args.client c.as_slice.result.now c.args.changes.items c.as_slice.ensures.value c.write_all.ensures.tables c.write_all.ensures.held c.write_all.ensures.changes)
    ∙ made.rows)

pub returns-clause-own : goal.returns-clause-own
returns-clause-own c =
    let each = rw (← c.self.view_is) at c.requires.changes in
    let old = rw (← c.self.view_is) at c.requires.old in
    let made = write c.args.changes.items c.self.inside.rows (open_in (laid_in c.self.inside.rows c.self.inside.logs.items) c.self.inside.logs.items) c.args.client c.self.invariant each old in
    rw (← c.self.view_is) (grown-lists c.args.client c.args.changes.items (laid_in c.self.inside.rows c.self.inside.logs.items) c.self.inside.logs.items c.append_for.new.logs.items c.write_all.new.rows
    (subst (λ (kept : Contents). Ties kept (with_changes c.args.client c.args.changes.items (open_in (laid_in c.self.inside.rows c.self.inside.logs.items) c.self.inside.logs.items)))
    (sym (written-rows c.self.inside.rows c.write_all.new.rows c.args.client c.as_slice.result.now c.args.changes.items c.as_slice.ensures.value c.write_all.ensures.tables c.write_all.ensures.held c.write_all.ensures.changes))
    (made.ties c.write_all.new.rows.spare)) c.append_for.ensures.own c.append_for.ensures.others).own

pub returns-clause-others : goal.returns-clause-others
returns-clause-others c =
    let each = rw (← c.self.view_is) at c.requires.changes in
    let old = rw (← c.self.view_is) at c.requires.old in
    let made = write c.args.changes.items c.self.inside.rows (open_in (laid_in c.self.inside.rows c.self.inside.logs.items) c.self.inside.logs.items) c.args.client c.self.invariant each old in
    rw (← c.self.view_is) (grown-lists c.args.client c.args.changes.items (laid_in c.self.inside.rows c.self.inside.logs.items) c.self.inside.logs.items c.append_for.new.logs.items c.write_all.new.rows
    (subst (λ (kept : Contents). Ties kept (with_changes c.args.client c.args.changes.items (open_in (laid_in c.self.inside.rows c.self.inside.logs.items) c.self.inside.logs.items)))
    (sym (written-rows c.self.inside.rows c.write_all.new.rows c.args.client c.as_slice.result.now c.args.changes.items c.as_slice.ensures.value c.write_all.ensures.tables c.write_all.ensures.held c.write_all.ensures.changes))
    (made.ties c.write_all.new.rows.spare)) c.append_for.ensures.own c.append_for.ensures.others).others

pub returns-clause-laid : goal.returns-clause-laid
returns-clause-laid c =
    let each = rw (← c.self.view_is) at c.requires.changes in
    let old = rw (← c.self.view_is) at c.requires.old in
    let made = write c.args.changes.items c.self.inside.rows (open_in (laid_in c.self.inside.rows c.self.inside.logs.items) c.self.inside.logs.items) c.args.client c.self.invariant each old in
    rw (← c.self.view_is) (grown-lists c.args.client c.args.changes.items (laid_in c.self.inside.rows c.self.inside.logs.items) c.self.inside.logs.items c.append_for.new.logs.items c.write_all.new.rows
    (subst (λ (kept : Contents). Ties kept (with_changes c.args.client c.args.changes.items (open_in (laid_in c.self.inside.rows c.self.inside.logs.items) c.self.inside.logs.items)))
    (sym (written-rows c.self.inside.rows c.write_all.new.rows c.args.client c.as_slice.result.now c.args.changes.items c.as_slice.ensures.value c.write_all.ensures.tables c.write_all.ensures.held c.write_all.ensures.changes))
    (made.ties c.write_all.new.rows.spare)) c.append_for.ensures.own c.append_for.ensures.others).laid_is
