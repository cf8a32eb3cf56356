use Rattle.std.proofs.Common.{refl}
use Rattle.au_image.proofs.Pieces.{all_changes, one_change, some_left, spelled_at}
use Rattle.au_image.proofs.imaging.write_group.Goals as goal

pub loop-entry-init : goal.loop-entry-init
loop-entry-init g c = c.writes_join.ensures.none _

pub write_entry-requires-clause-spellable : goal.write_entry-requires-clause-spellable
write_entry-requires-clause-spellable g c =
    spelled_at g.T.Entry.as_change c.args.entries.now c.loop-entry.entry-index _ _ c.loop-entry-test.true c.entry-item.is refl c.requires.spellable

pub write_entry-requires-clause-left : goal.write_entry-requires-clause-left
write_entry-requires-clause-left g c = some_left g.T.Entry.as_change c.args.entries.now _ _ c.loop-entry.entry-index c.loop-entry-test.true c.requires.left c.loop-entry.invariant

pub loop-entry-preserved : goal.loop-entry-preserved
loop-entry-preserved g c =
    one_change c.writes_join.ensures g.T.Entry.as_change c.args.entries.now _ _ _ c.loop-entry.entry-index _ _ c.loop-entry-test.true c.entry-item.is refl c.loop-entry.invariant c.in_ok-write_entry.ensures

pub returns : goal.returns
returns g c = all_changes g.T.Entry.as_change c.args.entries.now _ _ c.loop-entry.entry-index c.loop-entry-test.false c.loop-entry.invariant
