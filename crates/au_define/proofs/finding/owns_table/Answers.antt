use Rattle.std.proofs.Common.{◌∙◌}
use Rattle.au_define.proofs.Places.{no_owner, owner_at, past}
use Rattle.au_define.proofs.finding.owns_table.Goals as goal

pub returns-then-place-tables : goal.returns-then-place-tables
returns-then-place-tables c =
    let read = c.index-tables-place in
    c.eq.ensures ∙ owner_at c.args.user.now c.args.tables.now _ read.result c.requires.order c.owner_place-place.ensures c.if-place-tables.true

pub returns-else-place-tables : goal.returns-else-place-tables
returns-else-place-tables c = past _ _ c.if-place-tables.false ∙ no_owner c.args.user.now c.args.tables.now _ c.owner_place-place.ensures c.if-place-tables.false
