use Rattle.std.proofs.Common.{◌∙◌, sym}
use Rattle.au_image.specs.Image.{rows_seen_by, trail_told}
use Rattle.au_image.proofs.Pieces.{changes_told, image_held, no_change, records_done, records_wait}
use Rattle.au_image.proofs.imaging.image.Goals as goal

pub new-requires : goal.new-requires
new-requires c = c.requires.writable.last

pub write_changes-requires-clause-ready : goal.write_changes-requires-clause-ready
write_changes-requires-clause-ready c =
    let counted = c.count_changes.ensures (rows_seen_by c.args.client c.args.desk.now) (sym c.in_ok-rows.ensures) c.args.instance in
    (c.in_ok-writer.ensures.changes ∙ (c.in_ok-changes.ensures.ok ∙ counted), c.requires.writable.spelled.entries)

pub write_told-requires-clause-changes : goal.write_told-requires-clause-changes
write_told-requires-clause-changes c =
    let counted = c.count_changes.ensures (rows_seen_by c.args.client c.args.desk.now) (sym c.in_ok-rows.ensures) c.args.instance in
    changes_told _ _ _ _ _ c.in_ok-writer.ensures.changes c.in_ok-changes.ensures.ok counted c.in_ok-write_changes.ensures

pub write_told-requires-clause-left : goal.write_told-requires-clause-left
write_told-requires-clause-left c =
    records_wait _ _ _ (trail_told c.args.told.now) _ c.in_ok-writer.ensures.records (c.in_ok-records.ensures.ok ∙ c.count_told.ensures) c.in_ok-write_changes.ensures

pub write_told-requires-clause-spellable : goal.write_told-requires-clause-spellable
write_told-requires-clause-spellable c = c.requires.writable.spelled.records

pub finish-requires-clause-changes : goal.finish-requires-clause-changes
finish-requires-clause-changes c =
    let counted = c.count_changes.ensures (rows_seen_by c.args.client c.args.desk.now) (sym c.in_ok-rows.ensures) c.args.instance in
    no_change _ _ _
    (changes_told _ _ _ _ _ c.in_ok-writer.ensures.changes c.in_ok-changes.ensures.ok counted c.in_ok-write_changes.ensures)
    c.in_ok-write_told.ensures

pub finish-requires-clause-records : goal.finish-requires-clause-records
finish-requires-clause-records c =
    records_done _ _ _ _ _ _ c.in_ok-writer.ensures.records (c.in_ok-records.ensures.ok ∙ c.count_told.ensures) c.in_ok-write_changes.ensures c.in_ok-write_told.ensures

pub returns-clause-bytes : goal.returns-clause-bytes
returns-clause-bytes c = c.in_ok-bytes.ensures.bytes _ _ _ (image_held _ _ _ _ _ _ c.in_ok-writer.ensures.holds c.in_ok-write_changes.ensures c.in_ok-write_told.ensures)

pub returns-clause-spellable : goal.returns-clause-spellable
returns-clause-spellable c = c.in_ok-bytes.ensures.spellable _ _ _ (image_held _ _ _ _ _ _ c.in_ok-writer.ensures.holds c.in_ok-write_changes.ensures c.in_ok-write_told.ensures)
