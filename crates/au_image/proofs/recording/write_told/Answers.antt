use Rattle.au_entries.specs.Frames.{trail_left}
use Rattle.rec_codec.specs.Records.{trail_record}
use Rattle.au_image.proofs.Pieces.{all_behind, all_front, no_change}
use Rattle.au_image.proofs.RecordPieces.{first_fits, second_fits}
use Rattle.au_image.proofs.recording.write_told.Goals as goal

pub write_left-requires-clause-left : goal.write_left-requires-clause-left
write_left-requires-clause-left c = let told = c.args.told.now in first_fits (trail_left told.purge told.trail.now) told.records.now _ c.requires.left

pub write_left-requires-clause-spellable : goal.write_left-requires-clause-spellable
write_left-requires-clause-spellable c = let told = c.args.told.now in all_front trail_record.IsSpellable (trail_left told.purge told.trail.now) told.records.now c.requires.spellable

pub write_records-requires-clause-changes : goal.write_records-requires-clause-changes
write_records-requires-clause-changes c = no_change _ _ _ c.requires.changes c.in_ok-write_left.ensures

pub write_records-requires-clause-left : goal.write_records-requires-clause-left
write_records-requires-clause-left c = let told = c.args.told.now in second_fits (trail_left told.purge told.trail.now) told.records.now _ _ c.requires.left c.in_ok-write_left.ensures

pub write_records-requires-clause-spellable : goal.write_records-requires-clause-spellable
write_records-requires-clause-spellable c = let told = c.args.told.now in all_behind trail_record.IsSpellable (trail_left told.purge told.trail.now) told.records.now c.requires.spellable
