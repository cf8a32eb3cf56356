use Rattle.std.proofs.Common.{refl}
use Rattle.au_image.specs.Image.{audit_changes, object_change, row_change, rows_seen_by, table_change}
use Rattle.au_image.proofs.Pieces.{behind_rows, behind_tables, fits, joins, spells, step}
use Rattle.au_image.proofs.imaging.write_stored.Goals as goal

pub write_group-requires-clause-left : goal.write_group-requires-clause-left
write_group-requires-clause-left c = fits table_change c.args.catalog.now.tables _ (behind_tables c.args.catalog.now c.args.grants.now (rows_seen_by c.args.client c.args.desk.now) c.args.instance) _ c.requires.ready c.as_slice.ensures

pub write_group-requires-clause-spellable : goal.write_group-requires-clause-spellable
write_group-requires-clause-spellable c = spells table_change c.args.catalog.now.tables _ (behind_tables c.args.catalog.now c.args.grants.now (rows_seen_by c.args.client c.args.desk.now) c.args.instance) _ c.requires.ready c.as_slice.ensures

pub write_rows-requires-clause-left : goal.write_rows-requires-clause-left
write_rows-requires-clause-left c = fits row_change (rows_seen_by c.args.client c.args.desk.now) _ (behind_rows c.args.catalog.now c.args.grants.now c.args.instance) _ (step table_change c.args.catalog.now.tables _ (behind_tables c.args.catalog.now c.args.grants.now (rows_seen_by c.args.client c.args.desk.now) c.args.instance) _ _ c.requires.ready c.as_slice.ensures c.in_ok-write_group.ensures) refl

pub write_rows-requires-clause-spellable : goal.write_rows-requires-clause-spellable
write_rows-requires-clause-spellable c = spells row_change (rows_seen_by c.args.client c.args.desk.now) _ (behind_rows c.args.catalog.now c.args.grants.now c.args.instance) _ (step table_change c.args.catalog.now.tables _ (behind_tables c.args.catalog.now c.args.grants.now (rows_seen_by c.args.client c.args.desk.now) c.args.instance) _ _ c.requires.ready c.as_slice.ensures c.in_ok-write_group.ensures) refl

pub write_group-requires-2-clause-left : goal.write_group-requires-2-clause-left
write_group-requires-2-clause-left c = fits object_change c.args.grants.now.object _ (audit_changes c.args.catalog.now c.args.instance) _ (step row_change (rows_seen_by c.args.client c.args.desk.now) _ (behind_rows c.args.catalog.now c.args.grants.now c.args.instance) _ _ (step table_change c.args.catalog.now.tables _ (behind_tables c.args.catalog.now c.args.grants.now (rows_seen_by c.args.client c.args.desk.now) c.args.instance) _ _ c.requires.ready c.as_slice.ensures c.in_ok-write_group.ensures) refl c.in_ok-write_rows.ensures) c.object_grants.ensures.value

pub write_group-requires-2-clause-spellable : goal.write_group-requires-2-clause-spellable
write_group-requires-2-clause-spellable c = spells object_change c.args.grants.now.object _ (audit_changes c.args.catalog.now c.args.instance) _ (step row_change (rows_seen_by c.args.client c.args.desk.now) _ (behind_rows c.args.catalog.now c.args.grants.now c.args.instance) _ _ (step table_change c.args.catalog.now.tables _ (behind_tables c.args.catalog.now c.args.grants.now (rows_seen_by c.args.client c.args.desk.now) c.args.instance) _ _ c.requires.ready c.as_slice.ensures c.in_ok-write_group.ensures) refl c.in_ok-write_rows.ensures) c.object_grants.ensures.value

pub write_audit-requires : goal.write_audit-requires
write_audit-requires c = step object_change c.args.grants.now.object _ (audit_changes c.args.catalog.now c.args.instance) _ _ (step row_change (rows_seen_by c.args.client c.args.desk.now) _ (behind_rows c.args.catalog.now c.args.grants.now c.args.instance) _ _ (step table_change c.args.catalog.now.tables _ (behind_tables c.args.catalog.now c.args.grants.now (rows_seen_by c.args.client c.args.desk.now) c.args.instance) _ _ c.requires.ready c.as_slice.ensures c.in_ok-write_group.ensures) refl c.in_ok-write_rows.ensures) c.object_grants.ensures.value c.in_ok-write_group-2.ensures

pub returns : goal.returns
returns c = joins c.writes_join.ensures table_change c.args.catalog.now.tables _ (behind_tables c.args.catalog.now c.args.grants.now (rows_seen_by c.args.client c.args.desk.now) c.args.instance) _ _ _ c.as_slice.ensures c.in_ok-write_group.ensures (joins c.writes_join.ensures row_change (rows_seen_by c.args.client c.args.desk.now) _ (behind_rows c.args.catalog.now c.args.grants.now c.args.instance) _ _ _ refl c.in_ok-write_rows.ensures (joins c.writes_join.ensures object_change c.args.grants.now.object _ (audit_changes c.args.catalog.now c.args.instance) _ _ _ c.object_grants.ensures.value c.in_ok-write_group-2.ensures (c.in_ok-write_audit.ensures)))
