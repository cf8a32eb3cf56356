use Rattle.au_entries.specs.Frames.{is_from}
use Rattle.au_image.proofs.Pieces.{no_change}
use Rattle.au_image.proofs.RecordPieces.{all_that_stay, next_left, next_spelled, next_written}
use Rattle.au_image.proofs.recording.write_from.Goals as goal

pub loop-entry-init : goal.loop-entry-init
loop-entry-init c = c.writes_join.ensures.none _

pub write_one_from-requires-clause-spellable : goal.write_one_from-requires-clause-spellable
write_one_from-requires-clause-spellable c =
    next_spelled (is_from c.args.moment) c.args.trail.now c.loop-entry.entry-index _ c.loop-entry-test.true c.entry-item.is c.requires.spellable

pub write_one_from-requires-clause-changes : goal.write_one_from-requires-clause-changes
write_one_from-requires-clause-changes c = no_change _ _ _ c.requires.changes c.loop-entry.invariant

pub write_one_from-requires-clause-left : goal.write_one_from-requires-clause-left
write_one_from-requires-clause-left c =
    next_left (is_from c.args.moment) c.args.trail.now _ _ c.loop-entry.entry-index _ c.loop-entry-test.true c.entry-item.is c.requires.left c.loop-entry.invariant

pub loop-entry-preserved : goal.loop-entry-preserved
loop-entry-preserved c =
    next_written c.writes_join.ensures (is_from c.args.moment) c.args.trail.now _ _ _ c.loop-entry.entry-index _ c.loop-entry-test.true c.entry-item.is c.loop-entry.invariant c.in_ok-write_one_from.ensures

pub returns : goal.returns
returns c = all_that_stay (is_from c.args.moment) c.args.trail.now _ _ c.loop-entry.entry-index c.loop-entry-test.false c.loop-entry.invariant
