use Rattle.au_image.proofs.Pieces.{all_records, no_change, one_record, record_at, some_records_left}
use Rattle.au_image.proofs.recording.write_records.Goals as goal

pub loop-entry-init : goal.loop-entry-init
loop-entry-init c = c.writes_join.ensures.none _

pub push_record-requires-clause-spellable : goal.push_record-requires-clause-spellable
push_record-requires-clause-spellable c = record_at c.args.records.now c.loop-entry.entry-index _ c.loop-entry-test.true c.entry-item.is c.requires.spellable

pub push_record-requires-clause-changes : goal.push_record-requires-clause-changes
push_record-requires-clause-changes c = no_change _ _ _ c.requires.changes c.loop-entry.invariant

pub push_record-requires-clause-left : goal.push_record-requires-clause-left
push_record-requires-clause-left c = some_records_left c.args.records.now _ _ c.loop-entry.entry-index c.loop-entry-test.true c.requires.left c.loop-entry.invariant

pub loop-entry-preserved : goal.loop-entry-preserved
loop-entry-preserved c = one_record c.writes_join.ensures c.args.records.now _ _ _ c.loop-entry.entry-index _ c.loop-entry-test.true c.entry-item.is c.loop-entry.invariant c.in_ok-push_record.ensures

pub returns : goal.returns
returns c = all_records c.args.records.now _ _ c.loop-entry.entry-index c.loop-entry-test.false c.loop-entry.invariant
