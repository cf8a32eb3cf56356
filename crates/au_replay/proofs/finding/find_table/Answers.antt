use Rattle.std.proofs.Common.{◌≡◌, ◌∙◌, get_or, true, sym, ap}
use Rattle.au_base.specs.Sameness.{same_table}
use Rattle.au_entries.specs.declared.table.Table.{Table}
use Rattle.au_replay.proofs.Found.{one_table, same_table-is}
use Rattle.au_replay.proofs.Halving.{same_read}
use Rattle.au_replay.proofs.Places.{no_table, table_at}
use Rattle.au_replay.proofs.finding.find_table.Goals as goal
use Rattle.au_replay.proofs.finding.find_table.Goals.{else-place-tables-via-then-place-tables+else-is_same_table, else-place-tables-via-else-place-tables}

pub returns-then-is_same_table-clause-only : goal.returns-then-is_same_table-clause-only
returns-then-is_same_table-clause-only c =
    let found = c.index-tables-place-then-is_same_table in
    let tested = c.index-tables-place in
    let read = get_or c.args.tables.now c.table_place-place.result tested.result in
    let one : read ≡ found.result = same_read c.args.tables.now _ _ _ c.if-place-tables.true ∙ sym found.is in
    let is : same_table read.name c.args.name.now ≡ true = sym c.is_same_table.ensures ∙ c.if-is_same_table.true in
    let name : found.result.name ≡ c.args.name.now = ap (λ (table : Table). table.name) (sym one) ∙ same_table-is read.name c.args.name.now is in
    λ other has same. one_table c.args.tables.now other found.result c.requires.order has (c.table_place-place.result, c.if-place-tables.true, sym found.is) (same ∙ sym name)

pub returns-clause-none : goal.returns-clause-none
returns-clause-none c = elim c.else-place-tables.branch [
  | else-place-tables-via-then-place-tables+else-is_same_table w ↦
      (let read = w.index-tables-place in
      sym (table_at c.args.name.now c.args.tables.now _ read.result c.requires.order c.table_place-place.ensures w.if-place-tables.true)
      ∙ (sym w.is_same_table.ensures ∙ w.if-is_same_table.false))
  | else-place-tables-via-else-place-tables w ↦ sym (no_table c.args.name.now c.args.tables.now _ c.table_place-place.ensures w.if-place-tables.false)
]
