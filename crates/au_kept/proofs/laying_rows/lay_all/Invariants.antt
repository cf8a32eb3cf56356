use Rattle.std.proofs.Common.{◌≡◌, ◌≤◌, ◌+◌, false, drop}
use Rattle.std.specs.Prelude.{◌↔◌}
use Rattle.std.specs.List.{AllByRecursion}
use Rattle.au_entries.specs.Changing.{changed_all}
use Rattle.au_entries.specs.Replaying.{AllGoOn}
use Rattle.au_kept.specs.Staging.{IsOfRow}
use Rattle.au_kept.specs.descent.Laying.{IsStill, kept_seen}
use Rattle.au_replay.specs.Reading.{conditions}
use Rattle.au_kept.proofs.laying_rows.lay_all.Given as goal

abbrev pub invariant-loop-change : goal.invariant-loop-change
invariant-loop-change l = record {
  still : IsStill l.fn.desk l.desk;
  spare : l.fn.desk.spare ≤ l.desk.spare + l.change-index;
  rows : AllByRecursion IsOfRow (drop l.change-index l.changes);
  goes : AllGoOn conditions false (kept_seen l.catalog l.grants l.desk l.instance) (drop l.change-index l.changes) ↔ AllGoOn conditions false (kept_seen l.catalog l.grants l.fn.desk l.instance) l.changes;
  seen : changed_all conditions.tree (drop l.change-index l.changes) (kept_seen l.catalog l.grants l.desk l.instance) ≡ changed_all conditions.tree l.changes (kept_seen l.catalog l.grants l.fn.desk l.instance);
}
