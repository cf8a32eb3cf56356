use Rattle.std.proofs.Common.{◌∙◌, ◌≤◌, List, ap, subst, sym, arith}
use Rattle.std.specs.Vec.Iter.{into_iter_items}
use Rattle.au_kept.specs.declared.staged.TableEdit.{TableEdit}
use Rattle.au_kept.specs.Staging.{opened_count}
use Rattle.au_kept.specs.descent.Tabling.{CanEdit, rows_edited_all, tables_edited_all}
use Rattle.au_rows.specs.declared.table.Table.{Table}
use Rattle.au_txn.specs.Desks.{open_of}
use Rattle.au_txn.specs.Rows.{Row}
use Rattle.au_kept.proofs.Tabled.{can_go, opened_first, opened_more}
use Rattle.au_kept.proofs.tabling.edit_tables.Goals as goal

pub edit_table-requires-clause-may : goal.edit_table-requires-clause-may
edit_table-requires-clause-may c =
    (subst (λ (xs : List TableEdit). CanEdit (open_of c.loop-edit.desk) xs c.loop-edit.desk.tables) c.in-Some.ensures.items c.loop-edit.invariant.can).0

pub edit_table-requires-clause-spare : goal.edit_table-requires-clause-spare
edit_table-requires-clause-spare c =
    opened_first c.in-Some.edit (into_iter_items c.next.new.self) c.loop-edit.desk.spare (subst (λ (xs : List TableEdit). opened_count xs ≤ c.loop-edit.desk.spare) c.in-Some.ensures.items c.loop-edit.invariant.covers)

pub loop-edit-preserved : goal.loop-edit-preserved
loop-edit-preserved c =
    let rest = into_iter_items c.next.new.self in
    let so_far = c.loop-edit.invariant in
    let count = ap opened_count c.in-Some.ensures.items ∙ opened_more c.in-Some.edit rest in
    let before = so_far.covers in
    let grown = so_far.spare in
    let step = c.edit_table.ensures.spare in
    record {
      can = can_go c.loop-edit.desk c.edit_table.new.desk rest _ c.edit_table.ensures.lists c.edit_table.ensures.laid c.edit_table.ensures.tables
          (subst (λ (xs : List TableEdit). CanEdit (open_of c.loop-edit.desk) xs c.loop-edit.desk.tables) c.in-Some.ensures.items so_far.can).1;
      covers = omega (arith, count, before, step);
      tables = ap (λ (tables : List Table). tables_edited_all rest tables) c.edit_table.ensures.tables ∙ ap (λ (xs : List TableEdit). tables_edited_all xs c.loop-edit.desk.tables) (sym c.in-Some.ensures.items) ∙ so_far.tables;
      rows = ap (λ (rows : List Row). rows_edited_all rest rows) c.edit_table.ensures.rows ∙ ap (λ (xs : List TableEdit). rows_edited_all xs c.loop-edit.desk.rows) (sym c.in-Some.ensures.items) ∙ so_far.rows;
      lists = c.edit_table.ensures.lists ∙ so_far.lists;
      laid = c.edit_table.ensures.laid ∙ so_far.laid;
      spare = omega (arith, count, grown, step);
      keyed = λ keyed. c.edit_table.ensures.keyed (so_far.keyed keyed);
    }
