use Rattle.std.proofs.Common.{refl}
use Rattle.au_image.specs.descent.Rows.{lent_change}
use Rattle.au_image.proofs.Pieces.{all_changes, one_change, some_left, spelled_at}
use Rattle.au_image.proofs.rows.write_view.Goals as goal

pub loop-row-init : goal.loop-row-init
loop-row-init c = c.writes_join.ensures.none _

pub write_row-requires-clause-spellable : goal.write_row-requires-clause-spellable
write_row-requires-clause-spellable c =
    spelled_at (lent_change c.args.table.now) c.args.rows.now c.loop-row.row-index _ _ c.loop-row-test.true c.loop-row-item.is refl c.requires.spellable

pub write_row-requires-clause-left : goal.write_row-requires-clause-left
write_row-requires-clause-left c = some_left (lent_change c.args.table.now) c.args.rows.now _ _ c.loop-row.row-index c.loop-row-test.true c.requires.left c.loop-row.invariant

pub loop-row-preserved : goal.loop-row-preserved
loop-row-preserved c =
    one_change c.writes_join.ensures (lent_change c.args.table.now) c.args.rows.now _ _ _ c.loop-row.row-index _ _ c.loop-row-test.true c.loop-row-item.is refl c.loop-row.invariant c.in_ok-write_row.ensures

pub returns : goal.returns
returns c = all_changes (lent_change c.args.table.now) c.args.rows.now _ _ c.loop-row.row-index c.loop-row-test.false c.loop-row.invariant
