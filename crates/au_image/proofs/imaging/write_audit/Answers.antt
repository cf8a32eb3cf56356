use Rattle.std.proofs.Common.{[], ◌∷◌}
use Rattle.au_entries.specs.declared.change.Change.TheVariants.{Start}
use Rattle.au_image.specs.Image.{archive_changes, enablement_change, fga_change, policy_change}
use Rattle.au_image.proofs.Pieces.{archive_fits, archive_spells, behind_enabled, behind_fga, behind_policies, both_changes, fits, joins, one_left, rest_ready, spells, step}
use Rattle.au_image.proofs.imaging.write_audit.Goals as goal

pub write_group-requires-clause-left : goal.write_group-requires-clause-left
write_group-requires-clause-left c = fits policy_change c.args.catalog.now.policies _ (behind_policies c.args.catalog.now c.args.instance) _ (c.requires) c.as_slice.ensures

pub write_group-requires-clause-spellable : goal.write_group-requires-clause-spellable
write_group-requires-clause-spellable c = spells policy_change c.args.catalog.now.policies _ (behind_policies c.args.catalog.now c.args.instance) _ (c.requires) c.as_slice.ensures

pub write_group-requires-2-clause-left : goal.write_group-requires-2-clause-left
write_group-requires-2-clause-left c = fits enablement_change c.args.catalog.now.enabled _ (behind_enabled c.args.catalog.now c.args.instance) _ (step policy_change c.args.catalog.now.policies _ (behind_policies c.args.catalog.now c.args.instance) _ _ (c.requires) c.as_slice.ensures c.in_ok-write_group.ensures) c.as_slice-2.ensures

pub write_group-requires-2-clause-spellable : goal.write_group-requires-2-clause-spellable
write_group-requires-2-clause-spellable c = spells enablement_change c.args.catalog.now.enabled _ (behind_enabled c.args.catalog.now c.args.instance) _ (step policy_change c.args.catalog.now.policies _ (behind_policies c.args.catalog.now c.args.instance) _ _ (c.requires) c.as_slice.ensures c.in_ok-write_group.ensures) c.as_slice-2.ensures

pub write_group-requires-3-clause-left : goal.write_group-requires-3-clause-left
write_group-requires-3-clause-left c = fits fga_change c.args.catalog.now.fga _ (behind_fga c.args.catalog.now c.args.instance) _ (step enablement_change c.args.catalog.now.enabled _ (behind_enabled c.args.catalog.now c.args.instance) _ _ (step policy_change c.args.catalog.now.policies _ (behind_policies c.args.catalog.now c.args.instance) _ _ (c.requires) c.as_slice.ensures c.in_ok-write_group.ensures) c.as_slice-2.ensures c.in_ok-write_group-2.ensures) c.as_slice-3.ensures

pub write_group-requires-3-clause-spellable : goal.write_group-requires-3-clause-spellable
write_group-requires-3-clause-spellable c = spells fga_change c.args.catalog.now.fga _ (behind_fga c.args.catalog.now c.args.instance) _ (step enablement_change c.args.catalog.now.enabled _ (behind_enabled c.args.catalog.now c.args.instance) _ _ (step policy_change c.args.catalog.now.policies _ (behind_policies c.args.catalog.now c.args.instance) _ _ (c.requires) c.as_slice.ensures c.in_ok-write_group.ensures) c.as_slice-2.ensures c.in_ok-write_group-2.ensures) c.as_slice-3.ensures

pub write_archive-requires-clause-left : goal.write_archive-requires-clause-left
write_archive-requires-clause-left c = archive_fits c.args.catalog.now.archive (Start c.args.instance ∷ []) _ (step fga_change c.args.catalog.now.fga _ (behind_fga c.args.catalog.now c.args.instance) _ _ (step enablement_change c.args.catalog.now.enabled _ (behind_enabled c.args.catalog.now c.args.instance) _ _ (step policy_change c.args.catalog.now.policies _ (behind_policies c.args.catalog.now c.args.instance) _ _ (c.requires) c.as_slice.ensures c.in_ok-write_group.ensures) c.as_slice-2.ensures c.in_ok-write_group-2.ensures) c.as_slice-3.ensures c.in_ok-write_group-3.ensures)

pub write_archive-requires-clause-spellable : goal.write_archive-requires-clause-spellable
write_archive-requires-clause-spellable c = archive_spells c.args.catalog.now.archive (Start c.args.instance ∷ []) _ (step fga_change c.args.catalog.now.fga _ (behind_fga c.args.catalog.now c.args.instance) _ _ (step enablement_change c.args.catalog.now.enabled _ (behind_enabled c.args.catalog.now c.args.instance) _ _ (step policy_change c.args.catalog.now.policies _ (behind_policies c.args.catalog.now c.args.instance) _ _ (c.requires) c.as_slice.ensures c.in_ok-write_group.ensures) c.as_slice-2.ensures c.in_ok-write_group-2.ensures) c.as_slice-3.ensures c.in_ok-write_group-3.ensures)

pub write_start-requires-clause-spellable : goal.write_start-requires-clause-spellable
write_start-requires-clause-spellable c = (rest_ready (archive_changes c.args.catalog.now.archive) (Start c.args.instance ∷ []) _ _ (step fga_change c.args.catalog.now.fga _ (behind_fga c.args.catalog.now c.args.instance) _ _ (step enablement_change c.args.catalog.now.enabled _ (behind_enabled c.args.catalog.now c.args.instance) _ _ (step policy_change c.args.catalog.now.policies _ (behind_policies c.args.catalog.now c.args.instance) _ _ (c.requires) c.as_slice.ensures c.in_ok-write_group.ensures) c.as_slice-2.ensures c.in_ok-write_group-2.ensures) c.as_slice-3.ensures c.in_ok-write_group-3.ensures) c.in_ok-write_archive.ensures).1.0

pub write_start-requires-clause-left : goal.write_start-requires-clause-left
write_start-requires-clause-left c = one_left _ (Start c.args.instance) (rest_ready (archive_changes c.args.catalog.now.archive) (Start c.args.instance ∷ []) _ _ (step fga_change c.args.catalog.now.fga _ (behind_fga c.args.catalog.now c.args.instance) _ _ (step enablement_change c.args.catalog.now.enabled _ (behind_enabled c.args.catalog.now c.args.instance) _ _ (step policy_change c.args.catalog.now.policies _ (behind_policies c.args.catalog.now c.args.instance) _ _ (c.requires) c.as_slice.ensures c.in_ok-write_group.ensures) c.as_slice-2.ensures c.in_ok-write_group-2.ensures) c.as_slice-3.ensures c.in_ok-write_group-3.ensures) c.in_ok-write_archive.ensures)

pub returns : goal.returns
returns c = joins c.writes_join.ensures policy_change c.args.catalog.now.policies _ (behind_policies c.args.catalog.now c.args.instance) _ _ _ c.as_slice.ensures c.in_ok-write_group.ensures (joins c.writes_join.ensures enablement_change c.args.catalog.now.enabled _ (behind_enabled c.args.catalog.now c.args.instance) _ _ _ c.as_slice-2.ensures c.in_ok-write_group-2.ensures (joins c.writes_join.ensures fga_change c.args.catalog.now.fga _ (behind_fga c.args.catalog.now c.args.instance) _ _ _ c.as_slice-3.ensures c.in_ok-write_group-3.ensures (both_changes c.writes_join.ensures _ _ _ (archive_changes c.args.catalog.now.archive) (Start c.args.instance ∷ []) c.in_ok-write_archive.ensures c.in_ok-write_start.ensures)))
