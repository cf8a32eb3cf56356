use Rattle.std.proofs.Common.{◌≡◌, ◌∙◌, ◌≤◌, arith, refl}
use Rattle.trials_frames.proofs.Pieces.{changes_done, changes_spelled, last_fits, records_done, records_spelled, records_wait}
use Rattle.trials_frames.proofs.images.in_pieces.Goals as goal

pub new-requires : goal.new-requires
new-requires c = last_fits c.args.last c.args.changes.now c.args.records.now c.requires

pub push_changes-requires-clause-left : goal.push_changes-requires-clause-left
push_changes-requires-clause-left c = omega (arith, c.in_ok-writer.ensures.changes, c.in_ok-changes_len.ensures)

pub push_changes-requires-clause-spellable : goal.push_changes-requires-clause-spellable
push_changes-requires-clause-spellable c = changes_spelled c.args.last c.args.changes.now c.args.records.now c.requires

pub push_records-requires-clause-none : goal.push_records-requires-clause-none
push_records-requires-clause-none c = changes_done _ _ _ _ c.in_ok-writer.ensures.changes (c.in_ok-changes_len.ensures) c.in_ok-push_changes.ensures

pub push_records-requires-clause-left : goal.push_records-requires-clause-left
push_records-requires-clause-left c = records_wait _ _ _ _ _ c.in_ok-writer.ensures.records (c.in_ok-records_len.ensures) c.in_ok-push_changes.ensures

pub push_records-requires-clause-spellable : goal.push_records-requires-clause-spellable
push_records-requires-clause-spellable c = records_spelled c.args.last c.args.changes.now c.args.records.now c.requires
