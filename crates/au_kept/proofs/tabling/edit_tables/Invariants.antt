use Rattle.std.proofs.Common.{◌≡◌, ◌≤◌, ◌+◌}
use Rattle.std.specs.Vec.Iter.{into_iter_items, into_iter_len}
use Rattle.au_kept.specs.Staging.{opened_count}
use Rattle.au_kept.specs.descent.Tabling.{CanEdit, rows_edited_all, tables_edited_all}
use Rattle.au_txn.specs.Desks.{open_of}
use Rattle.au_txn.specs.Keys.{IsKeyedDesk}
use Rattle.au_kept.proofs.tabling.edit_tables.Given as goal

abbrev pub invariant-loop-edit : goal.invariant-loop-edit
invariant-loop-edit l = record {
  can : CanEdit (open_of l.desk) (into_iter_items l.rest) l.desk.tables;
  covers : opened_count (into_iter_items l.rest) ≤ l.desk.spare;
  tables : tables_edited_all (into_iter_items l.rest) l.desk.tables ≡ tables_edited_all l.fn.edits.items l.fn.desk.tables;
  rows : rows_edited_all (into_iter_items l.rest) l.desk.rows ≡ rows_edited_all l.fn.edits.items l.fn.desk.rows;
  lists : l.desk.logs ≡ l.fn.desk.logs;
  laid : l.desk.laid ≡ l.fn.desk.laid;
  spare : l.fn.desk.spare + opened_count (into_iter_items l.rest) ≤ l.desk.spare + opened_count l.fn.edits.items;
  keyed : IsKeyedDesk l.fn.desk → IsKeyedDesk l.desk;
}

abbrev pub decreases-loop-edit : goal.decreases-loop-edit
decreases-loop-edit l = into_iter_len l.rest
