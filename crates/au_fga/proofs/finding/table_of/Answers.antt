use Rattle.std.proofs.Common.{◌≡◌, ◌∙◌, Some, ap, sym}
use Rattle.au_fga.proofs.Found.{by_fields, found_at, missed_at, missed_past}
use Rattle.au_fga.proofs.finding.table_of.Goals as goal
use Rattle.au_fga.proofs.finding.table_of.Goals.{else-place-tables-via-then-place-tables+else-is_same_table, else-place-tables-via-else-place-tables}

pub returns-then-is_same_table : goal.returns-then-is_same_table
returns-then-is_same_table c =
    found_at c.args.name.now c.args.tables.now _ c.index-tables-place.result c.index-tables-place-then-is_same_table.result c.table_place-place.ensures.place c.if-place-tables.true (sym c.is_same_table.ensures ∙ c.if-is_same_table.true)
    ∙ ap Some (sym c.index-tables-place-then-is_same_table.is)

pub returns : goal.returns
returns c = elim c.else-place-tables.branch [
  | else-place-tables-via-then-place-tables+else-is_same_table w ↦
      missed_at c.args.name.now c.args.tables.now _ w.index-tables-place.result (by_fields c.args.tables.now c.requires.order) c.table_place-place.ensures.place w.if-place-tables.true (sym w.is_same_table.ensures ∙ w.if-is_same_table.false)
  | else-place-tables-via-else-place-tables w ↦ missed_past c.args.name.now c.args.tables.now _ c.table_place-place.ensures.place w.if-place-tables.false
]
