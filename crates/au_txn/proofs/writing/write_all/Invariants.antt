use Rattle.std.proofs.Common.{◌≡◌, ◌≤◌, ◌+◌, ◌++◌, drop, length, map}
use Rattle.std.specs.List.{filter_map}
use Rattle.std.specs.Vec.Iter.{into_iter_items}
use Rattle.au_txn.specs.declared.change.RowChange.{RowChange}
use Rattle.au_txn.specs.Inside.{CanWrite, held_after, kept_change}
use Rattle.au_txn.proofs.writing.write_all.Given as goal

abbrev pub invariant-loop-change : goal.invariant-loop-change
invariant-loop-change l = record {
  tables : l.rows.tables ≡ l.fn.rows.tables;
  each : CanWrite l.rows.tables l.client (drop l.change-index l.changes) l.rows.held;
  contents : map (λ cells. cells.items) (into_iter_items l.contents) ≡ filter_map (λ (change : RowChange). change.new) (drop l.change-index l.changes);
  held : held_after l.fn.rows.tables l.client (drop l.change-index l.changes) l.rows.held ≡ held_after l.fn.rows.tables l.client l.changes l.fn.rows.held;
  changes : l.rows.changes ++ map (kept_change l.fn.rows.tables l.client) (drop l.change-index l.changes) ≡ l.fn.rows.changes ++ map (kept_change l.fn.rows.tables l.client) l.changes;
  spare : l.fn.rows.spare ≤ l.rows.spare + l.change-index;
  covers : length l.changes ≤ l.fn.rows.spare;
}
