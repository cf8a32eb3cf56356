use Rattle.std.proofs.Common.{◌∙◌, List, map, sym, ap, subst}
use Rattle.au_audit.specs.Firing.{fired}
use Rattle.au_base.specs.declared.cell.Cell.{Cell}
use Rattle.au_base.specs.declared.table.TableName.{TableName}
use Rattle.au_base.specs.Codes.{DONE}
use Rattle.au_entries.specs.declared.fine_grained.FgaPolicy.{FgaPolicy}
use Rattle.au_fga.specs.Testing.{RowsFit, truth_over}
use Rattle.au_txn.specs.Desks.{open_of}
use Rattle.au_txn.specs.Transactions.{laid_over}
use Rattle.au_plan.specs.Inside.{asked_entry, query_facts}
use Rattle.au_plan.proofs.Fires.{fired_same}
use Rattle.au_plan.proofs.Fitting.{all_fit}
use Rattle.au_plan.proofs.firing.fired_when_done.Goals as goal

pub firing-requires-clause-rows : goal.firing-requires-clause-rows
firing-requires-clause-rows c =
    let world = c.args.world.now in
    let desk = world.desk.now in
    let own = open_of desk c.args.client in
    subst (RowsFit world.catalog.now.tables)
    (sym (c.in_ok-touched.ensures ∙ ap (λ (policies : List FgaPolicy). map (asked_entry policies desk c.args.client) c.args.touched.now) c.as_slice-policies.ensures))
    (all_fit world.catalog.now.tables desk c.args.client (λ a b. (c.same_is_equal.ensures.table a b).0)
    (record { committed = c.requires.sound.committed; changed = c.requires.sound.changed c.args.client })
    (c.laid_rows_answer.ensures.laid desk.rows own) (λ row is. c.rows_stand_by_tables.ensures.there (laid_over desk.rows own) row is)
    world.catalog.now.fga c.args.touched.now)

pub returns : goal.returns
returns c =
    let world = c.args.world.now in
    let desk = world.desk.now in
    let truth = truth_over c.args.session.now world.catalog.now.tables in
    c.in_ok-names.ensures
    ∙ ap (λ (touched : List (TableName × List (List Cell))). fired truth DONE (query_facts touched c.args.named) world.catalog.now.fga)
    (c.in_ok-touched.ensures ∙ ap (λ (policies : List FgaPolicy). map (asked_entry policies desk c.args.client) c.args.touched.now) c.as_slice-policies.ensures)
    ∙ fired_same world c.args.client (λ a b. c.same_is_equal.ensures.table a b)
    (λ table row. c.rows_stand_by_tables.ensures.viewed desk.rows (open_of desk c.args.client) table row c.holds_together.ensures.rows)
    truth c.args.touched.now c.args.named c.requires.planned.created
