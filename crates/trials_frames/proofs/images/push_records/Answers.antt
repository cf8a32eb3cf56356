use Rattle.rec_codec.specs.Records.{trail_record}
use Rattle.trials_frames.proofs.Pieces.{all_records, no_change, one_at, one_record, record_left}
use Rattle.trials_frames.proofs.images.push_records.Goals as goal

pub loop-entry-init : goal.loop-entry-init
loop-entry-init c = c.writes_join.ensures.none _

pub push_record-requires-clause-spellable : goal.push_record-requires-clause-spellable
push_record-requires-clause-spellable c = one_at trail_record.IsSpellable c.args.records.now c.loop-entry.entry-index _ c.loop-entry-test.true c.entry-item.is c.requires.spellable

pub push_record-requires-clause-changes : goal.push_record-requires-clause-changes
push_record-requires-clause-changes c = no_change _ _ _ c.requires.none c.loop-entry.invariant

pub push_record-requires-clause-left : goal.push_record-requires-clause-left
push_record-requires-clause-left c = record_left c.args.records.now _ _ c.loop-entry.entry-index c.loop-entry-test.true c.requires.left c.loop-entry.invariant

pub loop-entry-preserved : goal.loop-entry-preserved
loop-entry-preserved c = one_record c.writes_join.ensures c.args.records.now _ _ _ c.loop-entry.entry-index _ c.loop-entry-test.true c.entry-item.is c.loop-entry.invariant c.in_ok-push_record.ensures

pub returns : goal.returns
returns c = all_records c.args.records.now _ _ c.loop-entry.entry-index c.loop-entry-test.false c.loop-entry.invariant
