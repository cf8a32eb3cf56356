use Rattle.std.proofs.Common.{◌∙◌}
use Rattle.au_define.proofs.Places.{no_table, past, table_at}
use Rattle.au_define.proofs.finding.has_table.Goals as goal

pub returns-then-place-tables : goal.returns-then-place-tables
returns-then-place-tables c =
    let read = c.index-tables-place in
    c.is_same_table.ensures ∙ table_at c.args.name.now c.args.tables.now _ read.result c.requires.order c.table_place-place.ensures c.if-place-tables.true

pub returns-else-place-tables : goal.returns-else-place-tables
returns-else-place-tables c = past _ _ c.if-place-tables.false ∙ no_table c.args.name.now c.args.tables.now _ c.table_place-place.ensures c.if-place-tables.false
